-- The verdict on the answer to a CORS-preflight request (Fetch, section 4.8 "CORS-preflight fetch", steps 7 and 8):
-- the first check that refuses it, or what is learned from it.
use Rattle.std.specs.Prelude.{ℕ, Bool, not, ◌&&◌, ◌||◌, List, [], ◌∷◌, codes, bytes_eq, Option, Some, None}
use Rattle.std.specs.Prelude.{unwrap_or, if◌then◌else◌}
use Rattle.value_requests.specs.declared.error.NetError.TheVariants as error
use Rattle.policy_preflight.specs.Words.{Absent, Credentials, Digits, Extracted, Failure, Head, Header, Items, Request}
use Rattle.policy_preflight.specs.Words.{Text, Tokens, authorization, capped_digits, contains, extracted, find}
use Rattle.policy_preflight.specs.Words.{has_wildcard, is_include, is_ok_status, is_safelisted_method, list_any}
use Rattle.policy_preflight.specs.Words.{passes_cors_check, str_eq_ignore_ascii_case}
use Rattle.policy_preflight.specs.declared.answer.Checked.{Checked}
use Rattle.policy_preflight.specs.declared.answer.Checked.TheVariants.{Pass, Refused}

-- ---- what the answer allows

-- the methods, nothing on failure: where Access-Control-Allow-Methods is absent, none, or with the use-CORS-preflight
-- flag the request's own (steps 7.1 and 7.4)
abbrev pub methods_of : Request → Extracted → Option (List Text)
methods_of request Failure = None
methods_of request Absent = Some (if request.use_preflight then request.method ∷ [] else [])
methods_of request (Items methods) = Some methods

-- the header names, nothing on failure (step 7.2)
abbrev pub names_of : Extracted → Option (List Text)
names_of Failure = None
names_of Absent = Some []
names_of (Items names) = Some names

-- the max-age in seconds: 5 where it is absent or a failure, and at most 7,200, which is this project's limit (steps
-- 7.8 to 7.10)
abbrev pub age_of : Extracted → ℕ
age_of (Items (digits ∷ more)) = unwrap_or (capped_digits digits 7200) 5
age_of _ = 5

-- ---- whether it allows the request

-- `*` counts: the credentials mode is not include, and the list contains it
abbrev pub covers_all : Credentials → List Text → Bool
covers_all credentials items = not (is_include credentials) && has_wildcard items

-- the list contains the method, byte for byte
abbrev pub has_method : Text → List Text → Bool
has_method method methods = list_any (λ item. bytes_eq item method) methods

-- the request's method is allowed: it is listed, CORS-safelisted, or covered by `*` (step 7.5)
abbrev pub allows_method : Request → List Text → Bool
allows_method request methods =
    has_method request.method methods || is_safelisted_method request.method || covers_all request.credentials methods

-- the list names this header, byte-case-insensitively
abbrev pub has_name : Text → List Text → Bool
has_name name names = list_any (λ item. str_eq_ignore_ascii_case item name) names

-- Authorization, the CORS non-wildcard request-header name, is allowed: the request does not have it, or it is listed
-- (step 7.6)
abbrev pub allows_authorization : Request → List Text → Bool
allows_authorization request names =
    not (contains authorization request.headers) || has_name authorization names

-- a header name is allowed: it is listed, or covered by `*` (step 7.7)
abbrev pub allows_name : Credentials → List Text → Text → Bool
allows_name credentials names name = has_name name names || covers_all credentials names

-- the first of the CORS-unsafe request-header names that is not allowed
abbrev pub first_refused : Credentials → List Text → List Text → Option Text
first_refused credentials names unsafe = find (λ name. not (allows_name credentials names name)) unsafe

-- ---- the verdict

-- the answer passes unless a header name is refused
abbrev pub unless_refused : Option Text → Checked → Checked
unless_refused None pass = pass
unless_refused (Some name) pass = Refused (error.PreflightHeader name)

-- the verdict by the allowed methods and header names: the request's method, its Authorization and each of its
-- CORS-unsafe request-header names are to be allowed
abbrev pub verdict_by : Request → List Text → ℕ → List Text → List Text → Checked
verdict_by request unsafe age methods names =
    if not (allows_method request methods) then Refused error.PreflightMethod
    else if not (allows_authorization request names) then Refused (error.PreflightHeader authorization)
    else unless_refused (first_refused request.credentials names unsafe) (Pass age methods names)

-- the same where each of the two lists is there (step 7.3)
abbrev pub verdict_where : Request → List Text → ℕ → Option (List Text) → Option (List Text) → Checked
verdict_where request unsafe age None names = Refused error.PreflightList
verdict_where request unsafe age (Some methods) None = Refused error.PreflightList
verdict_where request unsafe age (Some methods) (Some names) = verdict_by request unsafe age methods names

-- the verdict by the header list of an answer that passed the CORS check
abbrev pub verdict_of : Request → List Text → List Header → Checked
verdict_of request unsafe headers =
    verdict_where request unsafe
    (age_of (extracted Digits (codes "Access-Control-Max-Age") headers))
    (methods_of request (extracted Tokens (codes "Access-Control-Allow-Methods") headers))
    (names_of (extracted Tokens (codes "Access-Control-Allow-Headers") headers))

-- the verdict for a request, its serialised origin and its CORS-unsafe request-header names: the CORS check and an ok
-- status come first
abbrev pub verdict : Request → Text → List Text → Head → Checked
verdict request origin unsafe head =
    if not (passes_cors_check origin (is_include request.credentials) head.headers) then Refused error.PreflightCors
    else if not (is_ok_status head.status) then Refused error.PreflightStatus
    else verdict_of request unsafe head.headers
