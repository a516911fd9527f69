-- A permitted view is its own permitted view.
use Rattle.std.proofs.Common.{◌≡◌, ◌&&◌, [], ℕ, Bool, true, false, not, List, codes, cond, filter, refl, ap}
use Rattle.std.proofs.Common.{sym, ◌∙◌}
use Rattle.std.proofs.Common.{inl, inr}
use Rattle.std.proofs.lemmas.Bool.{and_parts, cases_Bool, or_left}
use Rattle.value_lists.specs.declared.extract.Extracted.{Extracted}
use Rattle.value_lists.specs.declared.extract.Extracted.TheVariants.{Absent, Failure, Items}
use Rattle.value_lists.specs.declared.extract.Rule.TheVariants.{Tokens}
use Rattle.value_headers.specs.declared.headers.Header.{Header}
use Rattle.value_lists.specs.Extract.{extracted}
use Rattle.value_headers.specs.Headers.{contains, values_of}
use Rattle.policy_checks.proofs.NameLemmas.{values-kept}
use Rattle.value_requests.specs.declared.hop.Head.{Head}
use Rattle.value_requests.specs.declared.hop.Hop.{Hop}
use Rattle.value_requests.specs.declared.mode.Tainting.{Tainting}
use Rattle.value_requests.specs.declared.mode.Tainting.TheVariants as tainting
use Rattle.value_requests.specs.declared.request.Request.{Request}
use Rattle.policy_checks.specs.PermittedNames.{has_name_among, preflight_names, preflight_view}
use Rattle.value_requests.specs.Statuses.{is_ok_status, is_redirect_status}
use Rattle.policy_filter.proofs.ExposureLemmas.{safelisted_if, told_if}
use Rattle.policy_filter.proofs.ViewLemmas.{KeepsChecked, basic-named, contains-fewer, contains-kept, cors-told}
use Rattle.policy_filter.proofs.ViewLemmas.{filter-all_named}
use Rattle.policy_filter.proofs.ViewLemmas.{filter-twice, filter-within, refused-kept, told-checked}
use Rattle.policy_filter.proofs.ViewLemmas.{told-named}
use Rattle.policy_filter.specs.Exposed.{exposed_by, header_names}
use Rattle.value_text.specs.Wildcards.{has_wildcard}
use Rattle.policy_filter.specs.Filtered.{exposed_to}
use Rattle.policy_filter.specs.Names.{is_forbidden, is_safelisted}
use Rattle.policy_filter.specs.Views.{followed_view, is_followed, is_refused, is_told, is_told_cors}
use Rattle.value_requests.specs.Modes.{is_follow, is_include}
use Rattle.policy_filter.specs.Views.{is_unfollowed, permitted_view, redirect_names, refused_view, response_names}
use Rattle.policy_filter.specs.Views.{response_view}
use Rattle.policy_filter.specs.Views.{type_names, unfollowed_view}

-- ---- the headers of a CORS response

-- what is safelisted is told
safelisted-told : (exposed : List (List ℕ)) (header : Header) → is_safelisted exposed header ≡ true
    → is_told_cors exposed header ≡ true
safelisted-told exposed header e = or_left _ (is_told tainting.Cors response_names header) e

-- what a view keeps, kept once more by the names that it exposes itself, by whether all are exposed
again-by : (star : Bool) (names : List (List ℕ)) (headers : List Header)
    → let view = filter (is_told_cors (cond star (header_names headers) names)) headers in
    filter (is_told_cors (cond star (header_names view) names)) view ≡ view
again-by false names headers = filter-twice (is_told_cors names) headers
again-by true names headers =
    let view = filter (is_told_cors (header_names headers)) headers in
    let all : view ≡ filter (told_if true) headers = filter-all_named told_if headers in
    filter-all_named told_if view ∙ ap (filter (told_if true)) all ∙ filter-twice (told_if true) headers ∙ sym all

-- what is safelisted in a view by the names that it exposes itself
safelisted-by : (star : Bool) (names : List (List ℕ)) (headers : List Header)
    → let view = filter (is_told_cors (cond star (header_names headers) names)) headers in
    filter (is_safelisted (cond star (header_names view) names)) view
    ≡ filter (is_safelisted (cond star (header_names headers) names)) headers
safelisted-by false names headers =
    filter-within (is_safelisted names) (is_told_cors names) (safelisted-told names) headers
safelisted-by true names headers =
    let view = filter (is_told_cors (header_names headers)) headers in
    let all : view ≡ filter (told_if true) headers = filter-all_named told_if headers in
    filter-all_named safelisted_if view ∙ ap (filter (safelisted_if true)) all
    ∙ filter-within (safelisted_if true) (told_if true)
    (λ header e. or_left _ (is_told tainting.Cors response_names header) e) headers
    ∙ sym (filter-all_named safelisted_if headers)

-- the same by what was extracted
again-found : (include : Bool) (found : Extracted) (headers : List Header)
    → let view = filter (is_told_cors (exposed_by include headers found)) headers in
    filter (is_told_cors (exposed_by include view found)) view ≡ view
again-found include Absent headers = filter-twice (is_told_cors []) headers
again-found include Failure headers = filter-twice (is_told_cors []) headers
again-found include (Items names) headers = again-by (not include && has_wildcard names) names headers

safelisted-found : (include : Bool) (found : Extracted) (headers : List Header)
    → let view = filter (is_told_cors (exposed_by include headers found)) headers in
    filter (is_safelisted (exposed_by include view found)) view
    ≡ filter (is_safelisted (exposed_by include headers found)) headers
safelisted-found include Absent headers =
    filter-within (is_safelisted []) (is_told_cors []) (safelisted-told []) headers
safelisted-found include Failure headers =
    filter-within (is_safelisted []) (is_told_cors []) (safelisted-told []) headers
safelisted-found include (Items names) headers = safelisted-by (not include && has_wildcard names) names headers

-- the names that a view exposes are extracted from the same values
values-exposed : (request : Request) (headers : List Header)
    → values_of (codes "Access-Control-Expose-Headers") (filter (is_told_cors (exposed_to request headers)) headers)
    ≡ values_of (codes "Access-Control-Expose-Headers") headers
values-exposed request headers =
    let name = codes "Access-Control-Expose-Headers" in
    let exposed = exposed_to request headers in
    values-kept (is_told_cors exposed) name
    (cors-told exposed name (told-named tainting.Cors response_names name refl)) headers

pub cors-again : (request : Request) (headers : List Header)
    → let view = filter (is_told_cors (exposed_to request headers)) headers in
    filter (is_told_cors (exposed_to request view)) view ≡ view
cors-again request headers =
    rw (values-exposed request headers)
    (again-found (is_include request.credentials)
    (extracted Tokens (codes "Access-Control-Expose-Headers") headers) headers)

pub cors-safelisted : (request : Request) (headers : List Header)
    → let view = filter (is_told_cors (exposed_to request headers)) headers in
    filter (is_safelisted (exposed_to request view)) view
    ≡ filter (is_safelisted (exposed_to request headers)) headers
cors-safelisted request headers =
    rw (values-exposed request headers)
    (safelisted-found (is_include request.credentials)
    (extracted Tokens (codes "Access-Control-Expose-Headers") headers) headers)

-- ---- the cases

-- the permitted view of a head that answers no preflight, by the tests
abbrev pub view_by : Bool → Bool → Bool → Request → Head → Head
view_by refused unfollowed followed request head =
    cond refused (refused_view request head)
    (cond unfollowed (unfollowed_view request head)
    (cond followed (followed_view request head) (response_view request.tainting request head)))

-- a head of this status and the headers that pass a test, kept twice
abbrev head_of : ℕ → List Header → Head
head_of status headers = record { status = status; headers = headers }

twice : (status : ℕ) (keep : Header → Bool) (headers : List Header)
    → head_of status (filter keep (filter keep headers)) ≡ head_of status (filter keep headers)
twice status keep headers = ap (head_of status) (filter-twice keep headers)

-- the check of a head comes to the same on what is told of it
pub refused-told : (request : Request) (names : List (List ℕ)) (headers : List Header)
    → is_refused request (filter (is_told request.tainting names) headers) ≡ is_refused request headers
refused-told request names headers =
    refused-kept request.tainting request (is_told request.tainting names) headers
    (told-checked request.tainting names)

-- a preflight's view
preflight-again : (head : Head) → preflight_view (preflight_view head) ≡ preflight_view head
preflight-again head =
    elim (cases_Bool (is_ok_status head.status)) [
      | inl ok ↦ rw ok (twice 200 (has_name_among preflight_names) head.headers)
      | inr other ↦ rw other (twice 500 (has_name_among preflight_names) head.headers)
    ]

-- a view of a CORS response keeps what the CORS check rests on
pub cors-checked : (exposed : List (List ℕ)) → KeepsChecked (is_told_cors exposed) tainting.Cors
cors-checked exposed name within =
    cors-told exposed name (told-checked tainting.Cors response_names name within)

-- three tests of which the last passes for fewer
pub fewer : (a b c d : Bool) → (c ≡ false → d ≡ false) → (a && b && c) ≡ false → (a && b && d) ≡ false
fewer true true c d less e = less e
fewer true false c d less e = refl
fewer false b c d less e = refl

-- a response's view, by its tainting
response-again : (tainting : Tainting) (request : Request) (head : Head)
    → request.tainting ≡ tainting → is_refused request head.headers ≡ false
    → is_unfollowed request head ≡ false → is_followed request head ≡ false
    → let view = response_view tainting request head in
    view_by (is_refused request view.headers) (is_unfollowed request view) (is_followed request view) request view
    ≡ view
response-again tainting.Basic request head e r u f =
    let location = codes "Location" in
    let there = contains-kept (λ header. not (is_forbidden header)) location (basic-named location refl refl) in
    rw (e, u, there head.headers, f)
    (twice head.status (λ header. not (is_forbidden header)) head.headers)
response-again tainting.Cors request head e r u f =
    let location = codes "Location" in
    let keep = is_told_cors (exposed_to request head.headers) in
    rw (
      e,
      refused-kept tainting.Cors request keep head.headers (cors-checked (exposed_to request head.headers))
          ∙ (rw e at r),
      u,
      fewer (is_redirect_status head.status) (is_follow request.redirect) (contains location head.headers)
          (contains location (filter keep head.headers)) (contains-fewer keep location head.headers) f,
    )
    (ap (head_of head.status) (cors-again request head.headers))
response-again tainting.Opaque request head e r u f =
    let names = type_names request.destination in
    rw (
      e,
      refused-kept tainting.Opaque request (is_told tainting.Opaque names) head.headers
          (told-checked tainting.Opaque names) ∙ (rw e at r),
    )
    (twice 200 (is_told tainting.Opaque names) head.headers)

-- a view is its own view
again-by_tests : (refused unfollowed followed : Bool) (request : Request) (head : Head)
    → is_refused request head.headers ≡ refused → is_unfollowed request head ≡ unfollowed
    → is_followed request head ≡ followed
    → let view = view_by refused unfollowed followed request head in
    view_by (is_refused request view.headers) (is_unfollowed request view) (is_followed request view) request view
    ≡ view
again-by_tests true unfollowed followed request head r u f =
    rw (refused-told request [] head.headers ∙ r) (twice 200 (is_told request.tainting []) head.headers)
again-by_tests false true followed request head r u f =
    rw (
      refused-told request [] head.headers ∙ r,
      (and_parts (is_redirect_status head.status) (not (is_follow request.redirect)) u).1,
    )
    (twice 302 (is_told request.tainting []) head.headers)
again-by_tests false false true request head r u f =
    let location = codes "Location" in
    rw (
      refused-told request redirect_names head.headers ∙ r,
      u,
      contains-kept (is_told request.tainting redirect_names) location
          (told-named request.tainting redirect_names location refl) head.headers,
      f,
    )
    (twice head.status (is_told request.tainting redirect_names) head.headers)
again-by_tests false false false request head r u f =
    response-again request.tainting request head refl r u f

pub own_view : (request : Request) (hop : Hop) (head : Head)
    → permitted_view request hop (permitted_view request hop head) ≡ permitted_view request hop head
own_view request hop head =
    elim (cases_Bool hop.preflight) [
      | inl preflight ↦ rw preflight (preflight-again head)
      | inr other ↦ rw other
          (again-by_tests (is_refused request head.headers) (is_unfollowed request head) (is_followed request head)
          request head refl refl refl)
    ]
