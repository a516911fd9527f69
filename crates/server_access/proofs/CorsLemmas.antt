-- The CORS check and the verdict on the answer to a preflight, over the values of the headers that count.
use Rattle.std.proofs.Common.{◌≡◌, ℕ, Bool, true, false, not, ◌&&◌, ◌||◌, List, [], ◌∷◌, map, find}
use Rattle.std.proofs.Common.{Option, Some, codes, refl, ap, sym, ◌∙◌, if◌then◌else◌}
use mathlib.Core.Bool.{and-false, or-false}
use Rattle.std.proofs.lemmas.Bool.{or_right}
use Rattle.std.proofs.lemmas.List.{append-nil}
use Rattle.std.specs.List.{AllByRecursion, list_all, list_any}
use Rattle.std.specs.Str.{bytes_eq, str_to_ascii_lowercase}
use Rattle.value_lemmas.proofs.Bytes.{bytes_eq-self}
use Rattle.value_text.specs.Mime.{is_text}
use Rattle.value_text.specs.Tokens.{is_token}
use Rattle.value_text.specs.Wildcards.{authorization, has_wildcard}
use Rattle.value_lists.specs.declared.extract.Extracted.{Extracted}
use Rattle.value_lists.specs.declared.extract.Rule.TheVariants.{Digits, Tokens}
use Rattle.value_headers.specs.declared.headers.Header.{Header}
use Rattle.value_lists.specs.Extract.{extracted, extracted_of}
use Rattle.value_headers.specs.Headers.{contains, joined, values_of}
use Rattle.value_requests.specs.declared.error.NetError.TheVariants as error
use Rattle.value_requests.specs.declared.hop.Head.{Head}
use Rattle.value_requests.specs.declared.mode.Credentials.{Credentials}
use Rattle.value_requests.specs.declared.request.Request.{Request}
use Rattle.value_requests.specs.Modes.{is_include}
use Rattle.policy_checks.specs.CorsCheck.{allows_any, allows_credentials, allows_origin, passes_cors_check}
use Rattle.value_requests.specs.Methods.{is_safelisted_method}
use Rattle.value_requests.specs.Statuses.{is_ok_status}
use Rattle.policy_preflight.specs.declared.answer.Checked.{Checked}
use Rattle.policy_preflight.specs.declared.answer.Checked.TheVariants.{Pass, Refused}
use Rattle.policy_preflight.specs.Verdict.{age_of, allows_authorization, allows_method, allows_name, covers_all}
use Rattle.policy_preflight.specs.Verdict.{first_refused}
use Rattle.policy_preflight.specs.Verdict.{has_name, methods_of, names_of, unless_refused, verdict}
use Rattle.policy_preflight.specs.Verdict.{verdict_of, verdict_where}
use Rattle.server_access.proofs.ListLemmas.{find-alike}
use Rattle.server_access.proofs.NameLemmas.{IsLowered, names-lowered}
use Rattle.server_access.proofs.TokenLemmas.{extracted-list, found_in, list_value}

-- ---- the CORS check

-- the names of the headers that it looks at
abbrev pub allow_origin : List ℕ
allow_origin = codes "Access-Control-Allow-Origin"

abbrev pub allow_credentials : List ℕ
allow_credentials = codes "Access-Control-Allow-Credentials"

-- the values that allow credentials, or not
abbrev pub credentials_value : Bool → List (List ℕ)
credentials_value credentials = if credentials then codes "true" ∷ [] else []

-- What an answer says that allows an origin, and credentials or not.
pub record Grants (origin : List ℕ) (credentials : Bool) (headers : List Header) : Type 0 where
  pub origin_is : values_of allow_origin headers ≡ origin ∷ []
  pub credentials_are : values_of allow_credentials headers ≡ credentials_value credentials

origin-allowed : (origin : List ℕ) (headers : List Header) → values_of allow_origin headers ≡ origin ∷ []
    → allows_origin origin headers ≡ true
origin-allowed origin headers is =
    ap (λ (values : List (List ℕ)). is_text origin (joined values)) is
    ∙ ap (λ (text : List ℕ). bytes_eq text origin) (append-nil origin) ∙ bytes_eq-self origin

credentials-by : (credentials : Bool)
    → is_text (codes "true") (joined (credentials_value credentials)) ≡ credentials
credentials-by true = refl
credentials-by false = refl

-- it passes where there are no credentials, or they are allowed
pub check-grants : (origin : List ℕ) (include credentials : Bool) (headers : List Header)
    → Grants origin credentials headers
    → passes_cors_check origin include headers ≡ (not include || credentials)
check-grants origin true credentials headers is =
    ap (λ (b : Bool). b && allows_credentials headers) (origin-allowed origin headers is.origin_is)
    ∙ ap (λ (values : List (List ℕ)). is_text (codes "true") (joined values)) is.credentials_are
    ∙ credentials-by credentials
check-grants origin false credentials headers is =
    or_right (allows_any headers) (allows_origin origin headers) (origin-allowed origin headers is.origin_is)

-- it fails where no origin is allowed
pub check-fails : (origin : List ℕ) (include : Bool) (headers : List Header) → values_of allow_origin headers ≡ []
    → passes_cors_check origin include headers ≡ false
check-fails origin true headers none =
    ap (λ (values : List (List ℕ)). is_text origin (joined values) && allows_credentials headers) none
check-fails origin false headers none =
    ap (λ (values : List (List ℕ)). is_text (codes "*") (joined values) || is_text origin (joined values)) none

-- ---- the verdict

-- the names of the headers that list what is allowed
abbrev pub allow_methods : List ℕ
allow_methods = codes "Access-Control-Allow-Methods"

abbrev pub allow_names : List ℕ
allow_names = codes "Access-Control-Allow-Headers"

-- What an answer says that allows these methods and header names.
pub record Allows (origin : List ℕ) (credentials : Bool) (methods names : List (List ℕ)) (head : Head) : Type 0 where
  pub grants : Grants origin credentials head.headers
  pub status_is : head.status ≡ 204
  pub methods_are : values_of allow_methods head.headers ≡ list_value methods
  pub names_are : values_of allow_names head.headers ≡ list_value names

-- Methods or header names that may be listed: tokens other than the wildcard.
pub record AreListed (texts : List (List ℕ)) : Type 0 where
  pub tokens : list_all is_token texts ≡ true
  pub no_wildcard : has_wildcard texts ≡ false

-- the list has the text
abbrev pub has : List (List ℕ) → List ℕ → Bool
has texts text = list_any (λ item. bytes_eq item text) texts

-- the methods allow the request's: they have it, it is CORS-safelisted, or there are none and the request has the
-- use-CORS-preflight flag
abbrev pub passes : List (List ℕ) → Request → Bool
passes methods request =
    has methods request.method || is_safelisted_method request.method
    || (request.use_preflight && not (list_any (λ method. true) methods))

-- the header name that is refused first: Authorization where the request has it, then the first of the unsafe ones
abbrev pub refused_name : List (List ℕ) → Request → List (List ℕ) → Option (List ℕ)
refused_name names request unsafe =
    if contains authorization request.headers && not (has names authorization) then Some authorization
    else find (λ name. not (has names name)) unsafe

-- the verdict, by whether the CORS check passes, whether the method is allowed, and the name that is refused first
abbrev pub verdict_on : Bool → Bool → Option (List ℕ) → Checked → Checked
verdict_on granted allowed refused pass =
    if not granted then Refused error.PreflightCors
    else if not allowed then Refused error.PreflightMethod
    else unless_refused refused pass

-- the methods that are read of the answer
abbrev pub methods_for : Request → List (List ℕ) → List (List ℕ)
methods_for request [] = if request.use_preflight then request.method ∷ [] else []
methods_for request (method ∷ methods) = method ∷ methods

methods-found : (request : Request) (methods : List (List ℕ))
    → methods_of request (found_in methods) ≡ Some (methods_for request methods)
methods-found request [] = refl
methods-found request (method ∷ methods) = refl

names-found : (names : List (List ℕ)) → names_of (found_in names) ≡ Some names
names-found [] = refl
names-found (name ∷ names) = refl

-- the wildcard does not count where it is not there
covers-none : (credentials : Credentials) (texts : List (List ℕ)) → has_wildcard texts ≡ false
    → covers_all credentials texts ≡ false
covers-none credentials texts none =
    ap (λ (b : Bool). not (is_include credentials) && b) none ∙ and-false (not (is_include credentials))

method-by : (request : Request) (methods : List (List ℕ)) → has_wildcard methods ≡ false
    → allows_method request (methods_for request methods) ≡ passes methods request
method-by request [] none = by-flag request.use_preflight
  where
    by-flag : (flag : Bool)
        → allows_method request (if flag then request.method ∷ [] else [])
        ≡ (is_safelisted_method request.method || (flag && true))
    by-flag true =
        ap (λ (b : Bool). (b || false) || is_safelisted_method request.method
        || covers_all request.credentials (request.method ∷ [])) (bytes_eq-self request.method)
        ∙ sym (or_right (is_safelisted_method request.method) true refl)
    by-flag false =
        ap (λ (b : Bool). is_safelisted_method request.method || b) (covers-none request.credentials [] refl)
method-by request (method ∷ methods) none =
    ap (λ (b : Bool). has (method ∷ methods) request.method || is_safelisted_method request.method || b)
    (covers-none request.credentials (method ∷ methods) none ∙ sym (and-false request.use_preflight))

module _ (names : List (List ℕ)) (lowered : map str_to_ascii_lowercase names ≡ names)
    (none : has_wildcard names ≡ false) where
  name-by : (credentials : Credentials) (name : List ℕ) → IsLowered name
      → allows_name credentials names name ≡ has names name
  name-by credentials name low =
      ap (λ (b : Bool). has_name name names || b) (covers-none credentials names none)
      ∙ or-false (has_name name names) ∙ names-lowered name names low lowered

  -- so the same name is refused
  refused-by : (credentials : Credentials) (unsafe : List (List ℕ)) → AllByRecursion IsLowered unsafe
      → first_refused credentials names unsafe ≡ find (λ name. not (has names name)) unsafe
  refused-by credentials unsafe low =
      find-alike (λ name. not (allows_name credentials names name)) (λ name. not (has names name)) unsafe
      (each unsafe low)
    where
      each : (texts : List (List ℕ)) → AllByRecursion IsLowered texts
          → AllByRecursion (λ name. not (allows_name credentials names name) ≡ not (has names name)) texts
      each [] low = tt
      each (text ∷ texts) low = (ap not (name-by credentials text low.0), each texts low.1)

  names-by : (request : Request) (unsafe : List (List ℕ)) → AllByRecursion IsLowered unsafe → (pass : Checked)
      → (if not (allows_authorization request names) then Refused (error.PreflightHeader authorization)
      else unless_refused (first_refused request.credentials names unsafe) pass)
      ≡ unless_refused (refused_name names request unsafe) pass
  names-by request unsafe low pass =
      ap (λ (b : Bool). if not (not (contains authorization request.headers) || b)
      then Refused (error.PreflightHeader authorization)
      else unless_refused (first_refused request.credentials names unsafe) pass)
      (names-lowered authorization names refl lowered)
      ∙ ap (λ (o : Option (List ℕ)). if not (not (contains authorization request.headers) || has names authorization)
      then Refused (error.PreflightHeader authorization) else unless_refused o pass)
      (refused-by request.credentials unsafe low)
      ∙ by-there (contains authorization request.headers) (has names authorization)
    where
      by-there : (there listed : Bool)
          → (if not (not there || listed) then Refused (error.PreflightHeader authorization)
          else unless_refused (find (λ name. not (has names name)) unsafe) pass)
          ≡ unless_refused (if there && not listed then Some authorization
          else find (λ name. not (has names name)) unsafe) pass
      by-there true true = refl
      by-there true false = refl
      by-there false listed = refl

-- the verdict on an answer that allows these methods and header names
pub verdict-is : (request : Request) (origin : List ℕ) (unsafe : List (List ℕ)) (head : Head) (credentials : Bool)
    (methods names : List (List ℕ)) → Allows origin credentials methods names head → AreListed methods
    → AreListed names → map str_to_ascii_lowercase names ≡ names → AllByRecursion IsLowered unsafe
    → verdict request origin unsafe head
    ≡ verdict_on (not (is_include request.credentials) || credentials) (passes methods request)
    (refused_name names request unsafe)
    (Pass (age_of (extracted Digits (codes "Access-Control-Max-Age") head.headers)) (methods_for request methods) names)
verdict-is request origin unsafe head credentials methods names says listed named lowered low =
    let age = age_of (extracted Digits (codes "Access-Control-Max-Age") head.headers) in
    let granted = not (is_include request.credentials) || credentials in
    let pass = Pass age (methods_for request methods) names in
    ap (λ (b : Bool). if not b then Refused error.PreflightCors
    else if not (is_ok_status head.status) then Refused error.PreflightStatus
    else verdict_of request unsafe head.headers)
    (check-grants origin (is_include request.credentials) credentials head.headers says.grants)
    ∙ ap (λ (status : ℕ). if not granted then Refused error.PreflightCors
    else if not (is_ok_status status) then Refused error.PreflightStatus
    else verdict_of request unsafe head.headers) says.status_is
    ∙ ap (λ (values : List (List ℕ)). if not granted then Refused error.PreflightCors
    else verdict_where request unsafe age (methods_of request (extracted_of Tokens values))
    (names_of (extracted Tokens allow_names head.headers))) says.methods_are
    ∙ ap (λ (found : Extracted). if not granted then Refused error.PreflightCors
    else verdict_where request unsafe age (methods_of request found)
    (names_of (extracted Tokens allow_names head.headers))) (extracted-list methods listed.tokens)
    ∙ ap (λ (values : List (List ℕ)). if not granted then Refused error.PreflightCors
    else verdict_where request unsafe age (methods_of request (found_in methods))
    (names_of (extracted_of Tokens values))) says.names_are
    ∙ ap (λ (found : Extracted). if not granted then Refused error.PreflightCors
    else verdict_where request unsafe age (methods_of request (found_in methods)) (names_of found))
    (extracted-list names named.tokens)
    ∙ ap (λ (found : Option (List (List ℕ))). if not granted then Refused error.PreflightCors
    else verdict_where request unsafe age found (names_of (found_in names))) (methods-found request methods)
    ∙ ap (λ (found : Option (List (List ℕ))). if not granted then Refused error.PreflightCors
    else verdict_where request unsafe age (Some (methods_for request methods)) found) (names-found names)
    ∙ ap (λ (b : Bool). if not granted then Refused error.PreflightCors
    else if not b then Refused error.PreflightMethod
    else if not (allows_authorization request names) then Refused (error.PreflightHeader authorization)
    else unless_refused (first_refused request.credentials names unsafe) pass)
    (method-by request methods listed.no_wildcard)
    ∙ ap (λ (checked : Checked). if not granted then Refused error.PreflightCors
    else if not (passes methods request) then Refused error.PreflightMethod else checked)
    (names-by names lowered named.no_wildcard request unsafe low pass)

-- and on one that allows no origin
pub verdict-fails : (request : Request) (origin : List ℕ) (unsafe : List (List ℕ)) (head : Head)
    → values_of allow_origin head.headers ≡ [] → verdict request origin unsafe head ≡ Refused error.PreflightCors
verdict-fails request origin unsafe head none =
    ap (λ (b : Bool). if not b then Refused error.PreflightCors
    else if not (is_ok_status head.status) then Refused error.PreflightStatus
    else verdict_of request unsafe head.headers)
    (check-fails origin (is_include request.credentials) head.headers none)
