-- A request as it is sent (Fetch, section 4.6 "HTTP-network-or-cache fetch", step 8; RFC 9112, section 3.2).
use Rattle.std.specs.Prelude.{Bool, true, false, List, [], ◌∷◌, length, codes, decimal, bytes_eq, Option}
use Rattle.std.specs.Prelude.{Some, None, if◌then◌else◌}
use Rattle.value_requests.specs.declared.mode.Credentials.TheVariants as credentials
use Rattle.value_requests.specs.declared.mode.Tainting.TheVariants as tainting
use Rattle.fetch_requests.specs.Words.{Cookie, Credentials, Header, Hop, Line, Parts, Request, Tainting, Text}
use Rattle.fetch_requests.specs.Words.{accept_encoding, all_appended, all_appended_where, connection, contains}
use Rattle.fetch_requests.specs.Words.{current_url, header, host_value, is_post_or_put, line, line_where, origin_of}
use Rattle.fetch_requests.specs.Words.{origin_text, origin_value, referrer_value, target_of, user_agent}

-- ---- the values of headers

-- credentials are included: always, or for the same origin (step 8.3)
abbrev pub includes_credentials : Credentials → Tainting → Bool
includes_credentials credentials.Include tainting = true
includes_credentials credentials.SameOrigin tainting.Basic = true
includes_credentials _ _ = false

-- the first value of an origin
abbrev pub cookie_of : Text → List Cookie → Option Text
cookie_of origin [] = None
cookie_of origin (cookie ∷ cookies) =
    if bytes_eq cookie.origin origin then Some cookie.value else cookie_of origin cookies

-- the value of Cookie, where credentials are included and the table has one (step 8.21)
abbrev pub cookie_value : List Cookie → Request → Parts → Option Text
cookie_value cookies request url =
    if includes_credentials request.credentials request.tainting
    then cookie_of (origin_text (origin_of url)) cookies else None

-- the value of Content-Length: the body's, or 0 for POST and PUT without one (steps 8.5 to 8.9)
abbrev pub length_value : Text → Option Text → Option Text
length_value method (Some body) = Some (decimal (length body))
length_value method None = if is_post_or_put method then Some (codes "0") else None

-- the user agent's own name, where the request gives none (step 8.15)
abbrev pub user_agent_value : List Header → Option Text
user_agent_value headers =
    if contains (codes "User-Agent") headers then None else Some user_agent

-- ---- the head

-- the lines that are sent after the request's own headers
abbrev pub added_lines : List Cookie → Request → Parts → List Line
added_lines cookies request url =
    line_where (codes "User-Agent") (user_agent_value request.headers)
    ∷ line (codes "Accept-Encoding") accept_encoding
    ∷ line_where (codes "Referer") (referrer_value request.referrer)
    ∷ line_where (codes "Origin") (origin_value request url)
    ∷ line_where (codes "Cookie") (cookie_value cookies request url)
    ∷ line_where (codes "Content-Length") (length_value request.method request.body)
    ∷ line (codes "Connection") connection
    ∷ []

-- the header list as it is sent: Host, the request's own headers, and the lines after them
abbrev pub head_lines : List Cookie → Request → Parts → List Header
head_lines cookies request url =
    all_appended_where (added_lines cookies request url)
    (all_appended (header (codes "Host") (host_value url) ∷ request.headers) [])

-- the request as it is sent to its current URL, without the URL's fragment and its credentials
abbrev pub hop_to : List Cookie → Request → Parts → Hop
hop_to cookies request url = record {
  preflight = false;
  origin = origin_text (origin_of url);
  url = target_of url;
  method = request.method;
  headers = head_lines cookies request url;
  body = request.body;
}

-- the request as it is sent
abbrev pub hop_of : List Cookie → Request → Hop
hop_of cookies request = hop_to cookies request (current_url request)
