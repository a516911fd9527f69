-- The request that a script's `fetch` makes (Fetch, sections 5.4 "new Request" and 5.6), or why it makes
-- none: the first of ten faults.
use Rattle.std.specs.Prelude.{ℕ, ◌+◌, ◌&&◌, ◌||◌, Bool, true, false, not, nat_lt, List, [], ◌∷◌, length}
use Rattle.std.specs.Prelude.{sum_by, codes, Option, Some, None, is_some, option_map, Result, Ok, Err, if◌then◌else◌}
use Rattle.policy_safelist.specs.declared.guard.Guard.TheVariants as guard
use Rattle.value_requests.specs.declared.policy.Destination.TheVariants as destination
use Rattle.value_requests.specs.declared.request.Referrer.TheVariants as referrer
use Rattle.fetch_requests.specs.Words.{BadHeader, BadMethod, BadUrl, Basic, BodyWithGet, Client, Destination}
use Rattle.fetch_requests.specs.Words.{ForbiddenMethod, Guard, Header, Init, LongUrl, Mode, Navigate, NavigateMode}
use Rattle.fetch_requests.specs.Words.{NoCors, NoCorsMethod, Pair, Parts, Referrer, Request, Text, TooLong, TypeFault}
use Rattle.fetch_requests.specs.Words.{UrlCredentials, appended, contains, has_credentials, is_forbidden_method}
use Rattle.fetch_requests.specs.Words.{is_get_or_head, is_header_value, is_safelisted_method, is_token, list_after}
use Rattle.fetch_requests.specs.Words.{normalized, outcome, then_some, unless_long, url_against}

-- ---- the URL

-- the most bytes that the text of a URL has (this project's own)
abbrev pub most_url_text : ℕ
most_url_text = 786432

-- the URL, or BadUrl where there is none
abbrev pub or_bad_url : Option Parts → Result Parts TypeFault
or_bad_url None = Err BadUrl
or_bad_url (Some url) = Ok url

-- the URL that a text gives against the client's, or why it gives none
abbrev pub url_given : Client → Text → Result Parts TypeFault
url_given client text =
    if nat_lt most_url_text (length text) then Err LongUrl
    else or_bad_url (unless_long (url_against client.url text))

-- ---- the faults

-- it is neither a header's name nor its value
abbrev pub is_bad_pair : Pair → Bool
is_bad_pair pair = not (is_token pair.name && is_header_value pair.value)

-- the index of the first bad pair, counted from i
abbrev pub first_bad : ℕ → List Pair → Option ℕ
first_bad i [] = None
first_bad i (pair ∷ pairs) = if is_bad_pair pair then Some i else first_bad (i + 1) pairs

-- mode no-cors
abbrev pub is_no_cors : Mode → Bool
is_no_cors NoCors = true
is_no_cors _ = false

-- mode navigate
abbrev pub is_navigate : Mode → Bool
is_navigate Navigate = true
is_navigate _ = false

-- how many bytes a name and a value have together
abbrev pub pair_size : Pair → ℕ
pair_size pair = length pair.name + length pair.value

-- how many bytes the method and the headers have together, as they are given
abbrev pub given_size : Init → ℕ
given_size init = length init.method + sum_by pair_size init.headers

-- the body has more than 65,536 bytes
abbrev pub is_long_body : Option Text → Bool
is_long_body None = false
is_long_body (Some body) = nat_lt 65536 (length body)

-- the method and headers have more than 16,384 bytes, or the body is too long
abbrev pub is_too_long : Init → Bool
is_too_long init = nat_lt 16384 (given_size init) || is_long_body init.body

-- the faults of a request for a URL, in the order in which they are looked for
abbrev pub faults : Init → Parts → List (Option TypeFault)
faults init url =
    then_some (has_credentials url) UrlCredentials
    ∷ then_some (not (is_token init.method)) BadMethod
    ∷ then_some (is_forbidden_method init.method) ForbiddenMethod
    ∷ then_some (is_some init.body && is_get_or_head (normalized init.method)) BodyWithGet
    ∷ then_some (is_no_cors init.mode && not (is_safelisted_method (normalized init.method))) NoCorsMethod
    ∷ option_map BadHeader (first_bad 0 init.headers)
    ∷ then_some (is_navigate init.mode) NavigateMode
    ∷ then_some (is_too_long init) TooLong
    ∷ []

-- the first that is there
abbrev pub first_fault : List (Option TypeFault) → Option TypeFault
first_fault [] = None
first_fault (None ∷ faults) = first_fault faults
first_fault (Some fault ∷ faults) = Some fault

-- ---- the header list

-- the guard of a request's headers
abbrev pub guard_of : Mode → Guard
guard_of NoCors = guard.NoCors
guard_of _ = guard.Request

-- "fill" the headers: each pair is appended under the guard
abbrev pub filled : Guard → List Pair → List Header → List Header
filled guard [] headers = headers
filled guard (pair ∷ pairs) headers =
    filled guard pairs (list_after (outcome guard pair.name pair.value headers) pair.name pair.value headers)

-- the header, appended where the list has none of its name
abbrev pub unless_there : Text → Text → List Header → List Header
unless_there name value headers =
    if contains name headers then headers else appended name value headers

-- the type of a body that is a text, where no other is given
abbrev pub with_body_type : Option Text → List Header → List Header
with_body_type None headers = headers
with_body_type (Some body) headers = unless_there (codes "Content-Type") (codes "text/plain;charset=UTF-8") headers

-- the value of Accept by what the request is for (Fetch, section 4, "fetch a request")
abbrev pub accept_value : Destination → Text
accept_value destination.Image = codes "image/png,image/svg+xml,image/*;q=0.8,*/*;q=0.5"
accept_value destination.Style = codes "text/css,*/*;q=0.1"
accept_value _ = codes "*/*"

-- the header list of the request: the given headers, then the body's type, then Accept
abbrev pub header_list : Init → List Header
header_list init =
    unless_there (codes "Accept") (accept_value destination.Fetch)
    (with_body_type init.body (filled (guard_of init.mode) init.headers []))

-- ---- the request

-- the referrer: the client, or none
abbrev pub referrer_of : Bool → Referrer
referrer_of true = referrer.Client
referrer_of false = referrer.NoReferrer

-- the request of an init without faults
abbrev pub made : Client → Init → Parts → Request
made client init url = record {
  method = normalized init.method;
  urls = url ∷ [];
  headers = header_list init;
  body = init.body;
  origin = client.origin;
  mode = init.mode;
  credentials = init.credentials;
  redirect = init.redirect;
  referrer = referrer_of init.client_referrer;
  policy = init.referrer_policy;
  integrity = init.integrity;
  nonce = [];
  parser = false;
  unsafe_request = true;
  use_preflight = init.upload;
  destination = destination.Fetch;
  tainting = Basic;
  redirects = 0;
}

-- the fault, or the request where there is none
abbrev pub fault_or : Option TypeFault → Request → Result Request TypeFault
fault_or None request = Ok request
fault_or (Some fault) request = Err fault

-- the request for a URL, where there is one
abbrev pub request_for : Client → Init → Result Parts TypeFault → Result Request TypeFault
request_for client init (Err fault) = Err fault
request_for client init (Ok url) = fault_or (first_fault (faults init url)) (made client init url)

-- the request that a `fetch` makes, or its first fault
abbrev pub new_request : Client → Init → Result Request TypeFault
new_request client init = request_for client init (url_given client init.url)
