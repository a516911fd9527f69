-- The headers of a hop that a server looks at: Origin, and Access-Control-Request-Method.
use Rattle.std.proofs.Common.{◌≡◌, ℕ, true, List, [], ◌∷◌, ◌++◌, codes, Some, None, ap, ◌∙◌, if◌then◌else◌}
use Rattle.value_headers.proofs.ValueLemmas.{values-all_appended}
use Rattle.value_headers.specs.Headers.{all_appended, values_of}
use Rattle.value_requests.specs.declared.client.Cookie.{Cookie}
use Rattle.value_requests.specs.declared.mode.Tainting.{Tainting}
use Rattle.value_requests.specs.declared.mode.Tainting.TheVariants as tainting
use Rattle.value_requests.specs.declared.request.Request.{Request}
use Rattle.value_requests.specs.Lines.{header}
use Rattle.value_requests.specs.Modes.{is_cors_tainted}
use Rattle.value_requests.specs.Methods.{is_get_or_head}
use Rattle.policy_checks.specs.OriginHeader.{told_origin}
use Rattle.value_requests.specs.Requests.{current_url}
use Rattle.policy_checks.specs.RequestOrigins.{serialized_request_origin}
use Rattle.value_requests.specs.Targets.{host_value}
use Rattle.policy_preflight.specs.Preflight.{preflight_lines, preflight_of}
use Rattle.fetch_requests.specs.Heads.{added_lines, hop_of}
use Rattle.server_access.proofs.ValueLemmas.{line_value, line_values, values-lines}

-- the name of the header by which a preflight is known
abbrev pub request_method : List ℕ
request_method = codes "Access-Control-Request-Method"

-- the headers of a request as it is sent: its own, and those of the lines after them
hop-values : (name : List ℕ) (cookies : List Cookie) (request : Request)
    → values_of name (hop_of cookies request).headers
    ≡ values_of name (header (codes "Host") (host_value (current_url request)) ∷ request.headers)
    ++ line_values name (added_lines cookies request (current_url request))
hop-values name cookies request =
    let own = header (codes "Host") (host_value (current_url request)) ∷ request.headers in
    let lines = added_lines cookies request (current_url request) in
    values-lines name lines (all_appended own [])
    ∙ ap (λ (l : List (List ℕ)). l ++ line_values name lines) (values-all_appended name own [])

-- under tainting cors the origin alone is sent as Origin
pub hop-origin : (cookies : List Cookie) (request : Request) → request.tainting ≡ tainting.Cors
    → values_of (codes "Origin") request.headers ≡ []
    → values_of (codes "Origin") (hop_of cookies request).headers ≡ serialized_request_origin request ∷ []
hop-origin cookies request tainted none =
    hop-values (codes "Origin") cookies request
    ∙ ap (λ (l : List (List ℕ)). l ++ line_values (codes "Origin")
    (added_lines cookies request (current_url request))) none
    ∙ ap (λ (t : Tainting). line_value true (if is_cors_tainted t then Some (serialized_request_origin request)
    else if is_get_or_head request.method then None
    else Some (told_origin request (current_url request))) ++ []) tainted

-- and no Access-Control-Request-Method
pub hop-method : (cookies : List Cookie) (request : Request) → values_of request_method request.headers ≡ []
    → values_of request_method (hop_of cookies request).headers ≡ []
hop-method cookies request none =
    hop-values request_method cookies request
    ∙ ap (λ (l : List (List ℕ)). l ++ line_values request_method
    (added_lines cookies request (current_url request))) none

-- a preflight has both
pub preflight-origin : (request : Request) (names : List (List ℕ))
    → values_of (codes "Origin") (preflight_of request names).headers ≡ serialized_request_origin request ∷ []
preflight-origin request names =
    values-lines (codes "Origin") (preflight_lines request names (current_url request)) []

pub preflight-method : (request : Request) (names : List (List ℕ))
    → values_of request_method (preflight_of request names).headers ≡ request.method ∷ []
preflight-method request names =
    values-lines request_method (preflight_lines request names (current_url request)) []
