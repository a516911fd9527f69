-- Where all names of a list are exposed, each of its headers has one of them.
use Rattle.std.proofs.Common.{◌≡◌, ◌&&◌, ◌||◌, ◌∷◌, [], ℕ, Bool, true, false, not, List, cond, codes, filter, refl}
use Rattle.std.proofs.Common.{ap, sym, ◌∙◌, arith, inl, inr}
use Rattle.std.proofs.lemmas.Bool.{cases_Bool}
use Rattle.std.proofs.lemmas.Grind.{common_steps}
use Rattle.std.specs.List.{list_all}
use Rattle.std.specs.Str.{str_eq_ignore_ascii_case}
use Rattle.value_lists.specs.declared.extract.Extracted.{Extracted}
use Rattle.value_lists.specs.declared.extract.Extracted.TheVariants.{Absent, Failure, Items}
use Rattle.value_lists.specs.declared.extract.Rule.TheVariants.{Tokens}
use Rattle.value_headers.specs.declared.headers.Header.{Header}
use Rattle.value_lists.specs.Extract.{extracted}
use Rattle.value_headers.specs.Headers.{is_named}
use Rattle.value_requests.specs.declared.mode.Tainting.TheVariants as tainting
use Rattle.value_requests.specs.declared.request.Request.{Request}
use Rattle.value_requests.specs.Modes.{is_include}
use Rattle.policy_checks.specs.PermittedNames.{has_name_among}
use Rattle.policy_filter.proofs.ViewLemmas.{filter-all_named, other-name}
use Rattle.policy_filter.specs.declared.exposed.Exposure.TheVariants.{All, Names}
use Rattle.policy_filter.specs.Exposed.{exposed_by, exposed_names, header_names}
use Rattle.value_text.specs.Wildcards.{has_wildcard}
use Rattle.policy_filter.specs.Filtered.{exposed_to}
use Rattle.policy_filter.specs.Names.{is_forbidden, is_safelisted, safelisted_names}
use Rattle.policy_filter.specs.Private.Exposing.{exposure, exposure_by, exposure_to, is_safelisted_in, names_in}
use Rattle.policy_filter.specs.Views.{is_told, is_told_cors, response_names}

-- ---- the exposed names

named-by : (star : Bool) (names : List (List ℕ)) (headers : List Header)
    → names_in headers (cond star All (Names names)) ≡ cond star (header_names headers) names
named-by true names headers = refl
named-by false names headers = refl

named-found : (include : Bool) (found : Extracted) (headers : List Header)
    → names_in headers (exposure_by include found) ≡ exposed_by include headers found
named-found include Absent headers = refl
named-found include Failure headers = refl
named-found include (Items names) headers = named-by (not include && has_wildcard names) names headers

-- the names that a header list exposes
pub exposed_names_of : (include : Bool) (headers : List Header)
    → names_in headers (exposure include headers) ≡ exposed_names include headers
exposed_names_of include headers =
    named-found include (extracted Tokens (codes "Access-Control-Expose-Headers") headers) headers

-- ---- the headers that are kept

-- a header with one of these names has no other
none-other : (names : List (List ℕ)) (other : List ℕ)
    → list_all (λ name. not (str_eq_ignore_ascii_case name other)) names ≡ true
    → (header : Header) → has_name_among names header ≡ true → is_named other header ≡ false
none-other [] other differ header named = absurd (grind arith)
none-other (name ∷ names) other differ header named =
    elim (cases_Bool (str_eq_ignore_ascii_case name other)) [
      | inl same ↦ absurd (grind (arith, common_steps, same))
      | inr away ↦ elim (cases_Bool (is_named name header)) [
        | inl here ↦ other-name name other away header here
        | inr elsewhere ↦ none-other names other (rw away at differ) header (rw elsewhere at named)
      ]
    ]

-- what is safelisted whatever is exposed is not forbidden
either-way : (always forbidden : Bool) → (always ≡ true → forbidden ≡ false)
    → (always || not forbidden) ≡ not forbidden
either-way true forbidden apart = rw (apart refl) refl
either-way false forbidden apart = refl

not-forbidden : (header : Header) → has_name_among safelisted_names header ≡ true → is_forbidden header ≡ false
not-forbidden header named =
    rw (
      none-other safelisted_names (codes "Set-Cookie") refl header named,
      none-other safelisted_names (codes "Set-Cookie2") refl header named,
    )
    refl

-- the tests, where it is known whether the header has an exposed name
abbrev pub safelisted_if : Bool → Header → Bool
safelisted_if named header =
    has_name_among safelisted_names header || (named && not (is_forbidden header))

abbrev pub told_if : Bool → Header → Bool
told_if named header = safelisted_if named header || is_told tainting.Cors response_names header

safelisted-all : (header : Header) → is_safelisted_in All header ≡ safelisted_if true header
safelisted-all header =
    sym (either-way (has_name_among safelisted_names header) (is_forbidden header) (not-forbidden header))

told-all : (header : Header)
    → (is_safelisted_in All header || is_told tainting.Cors response_names header) ≡ told_if true header
told-all header = ap (λ b. b || is_told tainting.Cors response_names header) (safelisted-all header)

-- two tests that come to the same
filter-same : (p q : Header → Bool) → ((header : Header) → p header ≡ q header) → (headers : List Header)
    → filter p headers ≡ filter q headers
filter-same p q same [] = refl
filter-same p q same (header ∷ headers) = grind (arith, common_steps, same header, filter-same p q same headers)

safelisted-by : (star : Bool) (names : List (List ℕ)) (headers : List Header)
    → filter (is_safelisted_in (cond star All (Names names))) headers
    ≡ filter (is_safelisted (cond star (header_names headers) names)) headers
safelisted-by true names headers =
    filter-same (is_safelisted_in All) (safelisted_if true) safelisted-all headers
    ∙ sym (filter-all_named safelisted_if headers)
safelisted-by false names headers = refl

told-by : (star : Bool) (names : List (List ℕ)) (headers : List Header)
    → filter (λ header. is_safelisted_in (cond star All (Names names)) header
    || is_told tainting.Cors response_names header) headers
    ≡ filter (is_told_cors (cond star (header_names headers) names)) headers
told-by true names headers =
    filter-same _ (told_if true) told-all headers ∙ sym (filter-all_named told_if headers)
told-by false names headers = refl

safelisted-found : (include : Bool) (found : Extracted) (headers : List Header)
    → filter (is_safelisted_in (exposure_by include found)) headers
    ≡ filter (is_safelisted (exposed_by include headers found)) headers
safelisted-found include Absent headers = refl
safelisted-found include Failure headers = refl
safelisted-found include (Items names) headers = safelisted-by (not include && has_wildcard names) names headers

told-found : (include : Bool) (found : Extracted) (headers : List Header)
    → filter (λ header. is_safelisted_in (exposure_by include found) header
    || is_told tainting.Cors response_names header) headers
    ≡ filter (is_told_cors (exposed_by include headers found)) headers
told-found include Absent headers = refl
told-found include Failure headers = refl
told-found include (Items names) headers = told-by (not include && has_wildcard names) names headers

-- the headers that a CORS filtered response keeps
pub safelisted-headers : (request : Request) (headers : List Header)
    → filter (is_safelisted_in (exposure_to request headers)) headers
    ≡ filter (is_safelisted (exposed_to request headers)) headers
safelisted-headers request headers =
    safelisted-found (is_include request.credentials)
    (extracted Tokens (codes "Access-Control-Expose-Headers") headers) headers

-- those, and the told ones
pub cors-headers : (request : Request) (headers : List Header)
    → filter (λ header. is_safelisted_in (exposure_to request headers) header
    || is_told tainting.Cors response_names header) headers
    ≡ filter (is_told_cors (exposed_to request headers)) headers
cors-headers request headers =
    told-found (is_include request.credentials)
    (extracted Tokens (codes "Access-Control-Expose-Headers") headers) headers
