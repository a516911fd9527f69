-- A CORS-preflight request as it is sent (Fetch, section 4.8 "CORS-preflight fetch", steps 1 to 6, and section 4.6
-- "HTTP-network-or-cache fetch"; RFC 9112, section 3.2).
use Rattle.std.specs.Prelude.{true, List, [], ◌∷◌, codes, Option, Some, None}
use Rattle.policy_preflight.specs.Words.{Hop, Line, Parts, Request, Text, accept_encoding, all_appended_where, comma}
use Rattle.policy_preflight.specs.Words.{connection, current_url, host_value, join_with_byte, line, line_where}
use Rattle.policy_preflight.specs.Words.{origin_of, origin_text, referrer_value, serialized_request_origin, target_of}
use Rattle.policy_preflight.specs.Words.{user_agent}

-- the value of Access-Control-Request-Headers, where there are CORS-unsafe request-header names: these, with a comma
-- between each two
abbrev pub names_value : List Text → Option Text
names_value [] = None
names_value (name ∷ names) = Some (join_with_byte comma (name ∷ names))

-- its lines as they are sent, from Host on: Accept and what the request asks leave for, then what is sent with
-- every request. Its tainting is cors, so Origin is the serialised request origin, and no credentials are included
abbrev pub preflight_lines : Request → List Text → Parts → List Line
preflight_lines request names url =
    line (codes "Host") (host_value url)
    ∷ line (codes "Accept") (codes "*/*")
    ∷ line (codes "Access-Control-Request-Method") request.method
    ∷ line_where (codes "Access-Control-Request-Headers") (names_value names)
    ∷ line (codes "User-Agent") user_agent
    ∷ line (codes "Accept-Encoding") accept_encoding
    ∷ line_where (codes "Referer") (referrer_value request.referrer)
    ∷ line (codes "Origin") (serialized_request_origin request)
    ∷ line (codes "Connection") connection
    ∷ []

-- the preflight of a request as it is sent to a URL: OPTIONS without a body
abbrev pub preflight_to : Request → List Text → Parts → Hop
preflight_to request names url = record {
  preflight = true;
  origin = origin_text (origin_of url);
  url = target_of url;
  method = codes "OPTIONS";
  headers = all_appended_where (preflight_lines request names url) [];
  body = None;
}

-- the preflight of a request with these CORS-unsafe request-header names, to the request's current URL
abbrev pub preflight_of : Request → List Text → Hop
preflight_of request names = preflight_to request names (current_url request)
