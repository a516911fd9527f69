-- The CORS check of a response (Fetch, section 4.10 "CORS check").
use Rattle.std.specs.Prelude.{Bool, ◌&&◌, ◌||◌, List, codes, if◌then◌else◌}
use Rattle.value_text.specs.Texts.{Text}
use Rattle.value_headers.specs.declared.headers.Header.{Header}
use Rattle.value_headers.specs.Headers.{has_value}
use Rattle.value_requests.specs.declared.request.Request.{Request}
use Rattle.value_requests.specs.Modes.{is_include}
use Rattle.policy_checks.specs.RequestOrigins.{serialized_request_origin}

-- `Access-Control-Allow-Origin` is `*`
abbrev pub allows_any : List Header → Bool
allows_any headers = has_value (codes "Access-Control-Allow-Origin") (codes "*") headers

-- `Access-Control-Allow-Origin` is this origin, byte for byte
abbrev pub allows_origin : Text → List Header → Bool
allows_origin origin headers = has_value (codes "Access-Control-Allow-Origin") origin headers

-- `Access-Control-Allow-Credentials` is `true`
abbrev pub allows_credentials : List Header → Bool
allows_credentials headers = has_value (codes "Access-Control-Allow-Credentials") (codes "true") headers

-- "CORS check" of a serialised request origin, and whether the credentials mode is include: with it the origin itself
-- and credentials are to be allowed (steps 4, 6 and 7); without it any origin, or this one (steps 3 to 5)
abbrev pub passes_cors_check : Text → Bool → List Header → Bool
passes_cors_check origin include headers =
    if include then allows_origin origin headers && allows_credentials headers
    else allows_any headers || allows_origin origin headers

-- the CORS check of a request passes
abbrev pub passes_check : Request → List Header → Bool
passes_check request headers =
    passes_cors_check (serialized_request_origin request) (is_include request.credentials) headers
