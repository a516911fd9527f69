-- The request after a redirect to a URL (Fetch, section 4.5 "HTTP-redirect fetch", steps 8 to 19).
use Rattle.std.specs.Prelude.{ℕ, ◌+◌, Bool, not, ◌==◌, ◌&&◌, ◌||◌, List, [], ◌∷◌, ◌++◌, filter, codes, bytes_eq, None}
use Rattle.std.specs.Prelude.{if◌then◌else◌}
use Rattle.fetch_answers.specs.Words.{Head, Header, Parts, Request, Text, authorization, current_url, has_name_among}
use Rattle.fetch_answers.specs.Words.{have_same_origin, is_get_or_head, policy_of_header, policy_or, without}

-- ---- the method (step 12)

-- a redirect of this status turns the method to GET: 301 and 302 POST, and 303 any but GET and HEAD
abbrev pub turns_to_get : Text → ℕ → Bool
turns_to_get method status =
    ((status == 301 || status == 302) && bytes_eq method (codes "POST"))
    || (status == 303 && not (is_get_or_head method))

-- "request-body-header name"
abbrev pub body_header_names : List Text
body_header_names =
    codes "Content-Encoding" ∷ codes "Content-Language" ∷ codes "Content-Location" ∷ codes "Content-Type" ∷ []

-- the headers without those that have a request-body-header name
abbrev pub without_body_headers : List Header → List Header
without_body_headers headers = filter (λ header. not (has_name_among body_header_names header)) headers

-- the request with the method GET, without a body and without the headers that speak of it
abbrev pub turned_to_get : Request → Request
turned_to_get request = record request {
  method = codes "GET";
  headers = without_body_headers request.headers;
  body = None;
}

-- so it is where a redirect of this status turns its method
abbrev pub with_method_after : ℕ → Request → Request
with_method_after status request =
    if turns_to_get request.method status then turned_to_get request else request

-- ---- the headers (step 13)

-- the request without Authorization
abbrev pub without_authorization : Request → Request
without_authorization request = record request { headers = without authorization request.headers }

-- so it is where the URL has another origin than the current URL
abbrev pub with_authorization_at : Parts → Request → Request
with_authorization_at url request =
    if have_same_origin (current_url request) url then request else without_authorization request

-- ---- the referrer policy (step 19)

-- the request with the referrer policy that the headers of the answer name, where they do ("set request's referrer
-- policy on redirect", Referrer Policy, section 8.2)
abbrev pub with_policy_of : List Header → Request → Request
with_policy_of headers request = record request { policy = policy_or (policy_of_header headers) request.policy }

-- ---- the URL list and the redirect count (steps 18 and 8)

-- the request at one URL more, and redirected once more
abbrev pub at_next : Parts → Request → Request
at_next url request = record request { urls = request.urls ++ url ∷ []; redirects = request.redirects + 1 }

-- the request at this URL, without Authorization where that has another origin than the current URL (steps 13, 18 and
-- 8)
abbrev pub moved_to : Parts → Request → Request
moved_to url request = at_next url (with_authorization_at url request)

-- "HTTP-redirect fetch": the request after the redirect of this head to this URL
abbrev pub redirected_request : Request → Head → Parts → Request
redirected_request request head url =
    at_next url (with_policy_of head.headers (with_authorization_at url (with_method_after head.status request)))
