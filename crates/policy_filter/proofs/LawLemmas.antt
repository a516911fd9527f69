-- Each rule of a fetch that looks at a head comes to the same on its permitted view.
use Rattle.std.proofs.Common.{◌≡◌, ◌&&◌, ◌||◌, ◌∷◌, [], ℕ, Bool, true, false, not, List, codes, filter}
use Rattle.std.proofs.Common.{arith, refl, ap, sym, ◌∙◌, subst, Option, Some, None, inl, inr}
use mathlib.Core.Bool.{and-false}
use Rattle.std.proofs.lemmas.Bool.{and_parts, cases_Bool, not-true}
use Rattle.std.proofs.lemmas.Slice.Eq.{bytes_eq-Decides}
use Rattle.std.specs.Prelude.{IsTrue, bytes_eq}
use Rattle.value_headers.specs.declared.headers.Header.{Header}
use Rattle.value_headers.specs.Headers.{contains, values_of}
use Rattle.value_lists.specs.Blocking.{mime_blocked}
use Rattle.value_lists.specs.Essence.{essence_of}
use Rattle.value_lists.specs.Nosniff.{nosniff}
use Rattle.policy_checks.proofs.NameLemmas.{values-kept, values-only_named}
use Rattle.value_requests.specs.declared.hop.Head.{Head}
use Rattle.value_requests.specs.declared.hop.Hop.{Hop}
use Rattle.value_requests.specs.declared.mode.RedirectMode.{RedirectMode}
use Rattle.value_requests.specs.declared.mode.RedirectMode.TheVariants as redirect
use Rattle.value_requests.specs.declared.mode.Tainting.{Tainting}
use Rattle.value_requests.specs.declared.mode.Tainting.TheVariants as tainting
use Rattle.value_requests.specs.declared.policy.Destination.{Destination}
use Rattle.value_requests.specs.declared.policy.Destination.TheVariants as destination
use Rattle.value_requests.specs.declared.request.Request.{Request}
use Rattle.value_requests.specs.Modes.{is_cors_tainted, is_error_mode, is_follow, is_manual_mode}
use Rattle.policy_checks.specs.PermittedNames.{preflight_names}
use Rattle.value_requests.specs.Statuses.{is_redirect_status}
use Rattle.policy_filter.proofs.OwnViewLemmas.{cors-checked, cors-safelisted, fewer, view_by}
use Rattle.policy_filter.proofs.ViewLemmas.{IsOneOf, Keeps, KeepsChecked, basic-named, contains-fewer, contains-kept}
use Rattle.policy_filter.proofs.ViewLemmas.{cors-told, filter-twice, told-checked, told-named}
use Rattle.policy_filter.specs.Blocks.{is_nosniff_blocked, is_script, is_style, is_type_blocked}
use Rattle.policy_filter.specs.Filtered.{exposed_to, filtered, filtered_by}
use Rattle.policy_filter.specs.Laws.{HasSameBody, IsSameRedirect, KeepsBlocking, KeepsBody}
use Rattle.policy_filter.specs.Laws.{KeepsCorsCheck, KeepsFiltered, KeepsKnownHost, KeepsRedirect, KeepsResourcePolicy}
use Rattle.policy_filter.specs.Laws.{KeepsTarget, is_fetch, is_opaque_tainted}
use Rattle.policy_filter.specs.Names.{is_forbidden}
use Rattle.policy_filter.specs.Views.{checked_names, is_error, is_followed, is_manual}
use Rattle.policy_checks.specs.ResourcePolicy.{is_blocked}
use Rattle.policy_filter.specs.Views.{is_refused, is_told, is_told_cors, is_unfollowed}
use Rattle.policy_checks.specs.CorsCheck.{passes_check}
use Rattle.policy_filter.specs.Views.{permitted_view, redirect_names, response_names, response_view, type_names}

-- ---- what the checks rest on

-- the one header that is checked of a basic response is not forbidden
basic-checked-by : (name : List ℕ) (is : Bool) → bytes_eq (codes "Strict-Transport-Security") name ≡ is
    → (is || false) ≡ true → Keeps (λ header. not (is_forbidden header)) name
basic-checked-by name true e within =
    subst (λ (n : List ℕ). Keeps (λ header. not (is_forbidden header)) n)
    ((bytes_eq-Decides (codes "Strict-Transport-Security") name).0 e)
    (basic-named (codes "Strict-Transport-Security") refl refl)
basic-checked-by name false e within = absurd (grind arith)

basic-checked : KeepsChecked (λ header. not (is_forbidden header)) tainting.Basic
basic-checked name within =
    basic-checked-by name (bytes_eq (codes "Strict-Transport-Security") name) refl within

-- the values of a name that is checked, in the view of a response
response-checked : (tainting : Tainting) (request : Request) (head : Head) (name : List ℕ)
    → IsOneOf name (checked_names tainting)
    → values_of name (response_view tainting request head).headers ≡ values_of name head.headers
response-checked tainting.Basic request head name within =
    values-kept (λ header. not (is_forbidden header)) name (basic-checked name within) head.headers
response-checked tainting.Cors request head name within =
    let exposed = exposed_to request head.headers in
    values-kept (is_told_cors exposed) name (cors-checked exposed name within) head.headers
response-checked tainting.Opaque request head name within =
    let names = type_names request.destination in
    values-kept (is_told tainting.Opaque names) name (told-checked tainting.Opaque names name within) head.headers

-- and in each view
told-values : (request : Request) (names : List (List ℕ)) (headers : List Header) (name : List ℕ)
    → IsOneOf name (checked_names request.tainting)
    → values_of name (filter (is_told request.tainting names) headers) ≡ values_of name headers
told-values request names headers name within =
    values-kept (is_told request.tainting names) name (told-checked request.tainting names name within) headers

by-checked : (refused unfollowed followed : Bool) (request : Request) (head : Head) (name : List ℕ)
    → IsOneOf name (checked_names request.tainting)
    → values_of name (view_by refused unfollowed followed request head).headers ≡ values_of name head.headers
by-checked true unfollowed followed request head name within = told-values request [] head.headers name within
by-checked false true followed request head name within = told-values request [] head.headers name within
by-checked false false true request head name within = told-values request redirect_names head.headers name within
by-checked false false false request head name within = response-checked request.tainting request head name within

checked-values : (request : Request) (hop : Hop) (head : Head) (name : List ℕ) → hop.preflight ≡ false
    → IsOneOf name (checked_names request.tainting)
    → values_of name (permitted_view request hop head).headers ≡ values_of name head.headers
checked-values request hop head name sent within =
    rw sent
    (by-checked (is_refused request head.headers) (is_unfollowed request head) (is_followed request head) request head
    name within)

preflight-values : (request : Request) (hop : Hop) (head : Head) (name : List ℕ) → hop.preflight ≡ true
    → IsOneOf name preflight_names
    → values_of name (permitted_view request hop head).headers ≡ values_of name head.headers
preflight-values request hop head name preflight within =
    rw preflight (values-only_named preflight_names name within head.headers)

-- ---- known hosts, the CORS check and the cross-origin resource policy check

known-checked : (tainting : Tainting) → IsOneOf (codes "Strict-Transport-Security") (checked_names tainting)
known-checked tainting.Basic = refl
known-checked tainting.Cors = refl
known-checked tainting.Opaque = refl

pub keeps_known_host : KeepsKnownHost
keeps_known_host request hop head =
    let name = codes "Strict-Transport-Security" in
    elim (cases_Bool hop.preflight) [
      | inl preflight ↦ preflight-values request hop head name preflight refl
      | inr sent ↦ checked-values request hop head name sent (known-checked request.tainting)
    ]

cors-within : (by : Tainting) (name : List ℕ) → IsTrue (is_cors_tainted by)
    → IsOneOf name (checked_names tainting.Cors) → IsOneOf name (checked_names by)
cors-within tainting.Basic name e within = absurd (grind arith)
cors-within tainting.Cors name e within = within
cors-within tainting.Opaque name e within = absurd (grind arith)

-- the CORS check rests on the values of two headers
passes-same : (request : Request) (a b : List Header)
    → values_of (codes "Access-Control-Allow-Origin") a ≡ values_of (codes "Access-Control-Allow-Origin") b
    → values_of (codes "Access-Control-Allow-Credentials") a ≡ values_of (codes "Access-Control-Allow-Credentials") b
    → passes_check request a ≡ passes_check request b
passes-same request a b origins credentials = rw (origins, credentials) refl

pub keeps_cors_check : KeepsCorsCheck
keeps_cors_check request hop head asked =
    let origin = codes "Access-Control-Allow-Origin" in
    let credentials = codes "Access-Control-Allow-Credentials" in
    elim (cases_Bool hop.preflight) [
      | inl preflight ↦
          passes-same request (permitted_view request hop head).headers head.headers
          (preflight-values request hop head origin preflight refl)
          (preflight-values request hop head credentials preflight refl)
      | inr sent ↦
          let cors : IsTrue (is_cors_tainted request.tainting) = rw sent at asked in
          passes-same request (permitted_view request hop head).headers head.headers
          (checked-values request hop head origin sent (cors-within request.tainting origin cors refl))
          (checked-values request hop head credentials sent (cors-within request.tainting credentials cors refl))
    ]

opaque-within : (by : Tainting) (name : List ℕ) → IsTrue (is_opaque_tainted by)
    → IsOneOf name (checked_names tainting.Opaque) → IsOneOf name (checked_names by)
opaque-within tainting.Basic name e within = absurd (grind arith)
opaque-within tainting.Cors name e within = absurd (grind arith)
opaque-within tainting.Opaque name e within = within

-- the cross-origin resource policy check rests on the values of one header
blocked-same : (request : Request) (a b : List Header)
    → values_of (codes "Cross-Origin-Resource-Policy") a ≡ values_of (codes "Cross-Origin-Resource-Policy") b
    → is_blocked request a ≡ is_blocked request b
blocked-same request a b policies = rw policies refl

pub keeps_resource_policy : KeepsResourcePolicy
keeps_resource_policy request hop head asked =
    let policy = codes "Cross-Origin-Resource-Policy" in
    let sent = not-true hop.preflight (and_parts (not hop.preflight) (is_opaque_tainted request.tainting) asked).0 in
    let opaque = (and_parts (not hop.preflight) (is_opaque_tainted request.tainting) asked).1 in
    blocked-same request (permitted_view request hop head).headers head.headers
    (checked-values request hop head policy sent (opaque-within request.tainting policy opaque refl))

-- ---- redirects

-- a mode other than follow
error-unfollowed : (mode : RedirectMode) (is : Bool) → (is && not (is_follow mode)) ≡ false
    → (is && is_error_mode mode) ≡ false
error-unfollowed mode false e = refl
error-unfollowed redirect.Follow true e = refl
error-unfollowed redirect.Error true e = absurd (grind arith)
error-unfollowed redirect.Manual true e = refl

manual-unfollowed : (mode : RedirectMode) (is : Bool) → (is && not (is_follow mode)) ≡ false
    → (is && is_manual_mode mode) ≡ false
manual-unfollowed mode false e = refl
manual-unfollowed redirect.Follow true e = refl
manual-unfollowed redirect.Error true e = refl
manual-unfollowed redirect.Manual true e = absurd (grind arith)

-- one that is not error is manual
manual-left : (mode : RedirectMode) (is : Bool) → (is && not (is_follow mode)) ≡ true
    → (is && is_error_mode mode) ≡ false → (is && is_manual_mode mode) ≡ true
manual-left mode false e no_error = e
manual-left redirect.Follow true e no_error = e
manual-left redirect.Error true e no_error = absurd (grind arith)
manual-left redirect.Manual true e no_error = refl

-- a redirect that is followed is not one that is not to be
followed-not_unfollowed : (is follow there : Bool) → (is && follow && there) ≡ true → (is && not follow) ≡ false
followed-not_unfollowed true true there e = refl
followed-not_unfollowed true false there e = absurd (grind arith)
followed-not_unfollowed false follow there e = refl

-- what is done with a response as a redirect
response-redirect : (tainting : Tainting) (request : Request) (head : Head)
    → is_unfollowed request head ≡ false → is_followed request head ≡ false
    → IsSameRedirect request (response_view tainting request head) head
response-redirect tainting.Basic request head u f =
    let location = codes "Location" in
    record {
      error = refl;
      manual = refl;
      followed = rw (contains-kept (λ header. not (is_forbidden header)) location (basic-named location refl refl)
          head.headers) refl;
    }
response-redirect tainting.Cors request head u f =
    let location = codes "Location" in
    let keep = is_told_cors (exposed_to request head.headers) in
    record {
      error = refl;
      manual = refl;
      followed = fewer (is_redirect_status head.status) (is_follow request.redirect) (contains location head.headers)
          (contains location (filter keep head.headers)) (contains-fewer keep location head.headers) f ∙ sym f;
    }
response-redirect tainting.Opaque request head u f = record {
  error = sym (error-unfollowed request.redirect (is_redirect_status head.status) u);
  manual = sym (manual-unfollowed request.redirect (is_redirect_status head.status) u);
  followed = sym f;
}

redirect-by : (unfollowed followed : Bool) (request : Request) (head : Head)
    → is_unfollowed request head ≡ unfollowed → is_followed request head ≡ followed
    → IsSameRedirect request (view_by false unfollowed followed request head) head
redirect-by true followed request head u f =
    let is = (and_parts (is_redirect_status head.status) (not (is_follow request.redirect)) u).0 in
    let not_followed = not-true (is_follow request.redirect)
    (and_parts (is_redirect_status head.status) (not (is_follow request.redirect)) u).1 in
    record {
      error = rw is refl;
      manual = rw is refl;
      followed = rw (is, not_followed) refl;
    }
redirect-by false true request head u f =
    let location = codes "Location" in
    record {
      error = refl;
      manual = refl;
      followed = rw (contains-kept (is_told request.tainting redirect_names) location
          (told-named request.tainting redirect_names location refl) head.headers) refl;
    }
redirect-by false false request head u f = response-redirect request.tainting request head u f

pub keeps_redirect : KeepsRedirect
keeps_redirect request hop head allowed =
    rw (not-true hop.preflight allowed.sent, not-true (is_refused request head.headers) allowed.allowed)
    (redirect-by (is_unfollowed request head) (is_followed request head) request head refl refl)

pub keeps_target : KeepsTarget
keeps_target request hop head allowed followed =
    let keep = is_told request.tainting redirect_names in
    let location = codes "Location" in
    let policy = codes "Referrer-Policy" in
    rw (
      not-true hop.preflight allowed.sent,
      not-true (is_refused request head.headers) allowed.allowed,
      followed-not_unfollowed (is_redirect_status head.status) (is_follow request.redirect)
          (contains location head.headers)
          followed,
      followed,
    )
    (record {
      status = refl;
      location = values-kept keep location (told-named request.tainting redirect_names location refl) head.headers;
      policy = values-kept keep policy (told-named request.tainting redirect_names policy refl) head.headers;
    })

-- ---- responses

-- the filtered response by the tainting
filtered-by : (tainting : Tainting) (request : Request) (head : Head)
    → filtered_by tainting request (response_view tainting request head) ≡ filtered_by tainting request head
filtered-by tainting.Basic request head =
    ap (λ (headers : List Header). record (filtered_by tainting.Basic request head) { headers = headers })
    (filter-twice (λ header. not (is_forbidden header)) head.headers)
filtered-by tainting.Cors request head =
    ap (λ (headers : List Header). record (filtered_by tainting.Cors request head) { headers = headers })
    (cors-safelisted request head.headers)
filtered-by tainting.Opaque request head = refl

-- the filtered response of a redirect in redirect mode manual
filtered-manual : (request : Request) (view head : Head) (a b : Bool) → a ≡ true → b ≡ true
    → filtered request view a ≡ filtered request head b
filtered-manual request view head a b e f = rw (e, f) refl

filtered-by_tests : (unfollowed : Bool) (request : Request) (head : Head) → is_unfollowed request head ≡ unfollowed
    → is_followed request head ≡ false → is_error request head ≡ false
    → let view = view_by false unfollowed false request head in
    filtered request view (is_manual request view) ≡ filtered request head (is_manual request head)
filtered-by_tests true request head u f no_error =
    let view = view_by false true false request head in
    let manual = manual-left request.redirect (is_redirect_status head.status) u no_error in
    let same = (redirect-by true false request head u f).manual in
    filtered-manual request view head (is_manual request view) (is_manual request head) (same ∙ manual) manual
filtered-by_tests false request head u f no_error =
    let manual = manual-unfollowed request.redirect (is_redirect_status head.status) u in
    let same = (redirect-by false false request head u f).manual in
    rw (same, manual) (filtered-by request.tainting request head)

pub keeps_filtered : KeepsFiltered
keeps_filtered request hop head response =
    let followed = not-true (is_followed request head) response.last in
    rw (
      not-true hop.preflight response.allowed.sent,
      not-true (is_refused request head.headers) response.allowed.allowed,
      followed,
    )
    (filtered-by_tests (is_unfollowed request head) request head refl followed
    (not-true (is_error request head) response.no_error))

-- ---- what a response is blocked for

-- what is blocked for a destination is the same of two header lists
abbrev SameBlock : Destination → List Header → List Header → Type 0
SameBlock destination a b =
    (is_type_blocked destination a ≡ is_type_blocked destination b)
    × (is_nosniff_blocked destination a ≡ is_nosniff_blocked destination b)

-- where the two headers have the same values
types-same : (destination : Destination) (a b : List Header)
    → values_of (codes "Content-Type") a ≡ values_of (codes "Content-Type") b
    → values_of (codes "X-Content-Type-Options") a ≡ values_of (codes "X-Content-Type-Options") b
    → SameBlock destination a b
types-same destination a b types options = (rw types refl, rw (types, options) refl)

pub not-script : (essence : Option (List ℕ)) → mime_blocked essence false ≡ false
not-script None = refl
not-script (Some essence) = refl

-- another destination than script and style blocks nothing
types-none : (destination : Destination) (a b : List Header) → is_script destination ≡ false
    → is_style destination ≡ false → SameBlock destination a b
types-none destination a b script style =
    rw (script, style)
    (not-script (essence_of a) ∙ sym (not-script (essence_of b)), and-false (nosniff a) ∙ sym (and-false (nosniff b)))

-- the two headers are kept of an opaque response
opaque-typed : (destination : Destination) (headers : List Header)
    → let names = codes "X-Content-Type-Options" ∷ codes "Content-Type" ∷ [] in
    SameBlock destination (filter (is_told tainting.Opaque names) headers) headers
opaque-typed destination headers =
    let types = codes "Content-Type" in
    let options = codes "X-Content-Type-Options" in
    let names = options ∷ types ∷ [] in
    let keep = is_told tainting.Opaque names in
    types-same destination (filter keep headers) headers
    (values-kept keep types (told-named tainting.Opaque names types refl) headers)
    (values-kept keep options (told-named tainting.Opaque names options refl) headers)

-- or left away where the destination does not look at them
opaque-types : (destination : Destination) (headers : List Header)
    → SameBlock destination (filter (is_told tainting.Opaque (type_names destination)) headers) headers
opaque-types destination.Style headers = opaque-typed destination.Style headers
opaque-types destination.Script headers = opaque-typed destination.Script headers
opaque-types other headers = types-none other (filter (is_told tainting.Opaque []) headers) headers refl refl

response-types : (tainting : Tainting) (request : Request) (head : Head)
    → SameBlock request.destination (response_view tainting request head).headers head.headers
response-types tainting.Basic request head =
    let types = codes "Content-Type" in
    let options = codes "X-Content-Type-Options" in
    let keep : Header → Bool = λ header. not (is_forbidden header) in
    types-same request.destination (filter keep head.headers) head.headers
    (values-kept keep types (basic-named types refl refl) head.headers)
    (values-kept keep options (basic-named options refl refl) head.headers)
response-types tainting.Cors request head =
    let types = codes "Content-Type" in
    let options = codes "X-Content-Type-Options" in
    let exposed = exposed_to request head.headers in
    let keep = is_told_cors exposed in
    types-same request.destination (filter keep head.headers) head.headers
    (values-kept keep types (cors-told exposed types (told-named tainting.Cors response_names types refl)) head.headers)
    (values-kept keep options (cors-told exposed options (told-named tainting.Cors response_names options refl))
    head.headers)
response-types tainting.Opaque request head = opaque-types request.destination head.headers

fetch-none : (destination : Destination) (a b : List Header) → IsTrue (is_fetch destination)
    → SameBlock destination a b
fetch-none destination.Fetch a b fetch = types-none destination.Fetch a b refl refl
fetch-none _ a b fetch = absurd (grind arith)

blocks-by : (unfollowed : Bool) (request : Request) (head : Head) → is_unfollowed request head ≡ unfollowed
    → IsTrue (is_follow request.redirect || is_fetch request.destination)
    → SameBlock request.destination (view_by false unfollowed false request head).headers head.headers
blocks-by true request head u plain =
    let not_followed = not-true (is_follow request.redirect)
    (and_parts (is_redirect_status head.status) (not (is_follow request.redirect)) u).1 in
    fetch-none request.destination (view_by false true false request head).headers head.headers
    (rw not_followed at plain)
blocks-by false request head u plain = response-types request.tainting request head

pub keeps_blocking : KeepsBlocking
keeps_blocking request hop head response plain =
    let same = blocks-by (is_unfollowed request head) request head refl plain in
    rw (
      not-true hop.preflight response.allowed.sent,
      not-true (is_refused request head.headers) response.allowed.allowed,
      not-true (is_followed request head) response.last,
    )
    (record { kind = same.0; nosniff = same.1 })

-- ---- what reading a body rests on

response-body : (tainting : Tainting) (request : Request) (head : Head) → IsTrue (not (is_opaque_tainted tainting))
    → HasSameBody (response_view tainting request head) head
response-body tainting.Basic request head other =
    let coding = codes "Content-Encoding" in
    record {
      status = refl;
      coding = values-kept (λ header. not (is_forbidden header)) coding (basic-named coding refl refl) head.headers;
    }
response-body tainting.Cors request head other =
    let coding = codes "Content-Encoding" in
    let exposed = exposed_to request head.headers in
    record {
      status = refl;
      coding = values-kept (is_told_cors exposed) coding
          (cors-told exposed coding (told-named tainting.Cors response_names coding refl)) head.headers;
    }
response-body tainting.Opaque request head other = absurd (grind arith)

body-by : (unfollowed : Bool) (request : Request) (head : Head) → is_unfollowed request head ≡ unfollowed
    → is_error request head ≡ false → is_manual request head ≡ false
    → IsTrue (not (is_opaque_tainted request.tainting))
    → HasSameBody (view_by false unfollowed false request head) head
body-by true request head u no_error no_manual other =
    let manual = manual-left request.redirect (is_redirect_status head.status) u no_error in
    absurd (grind (arith, manual, no_manual))
body-by false request head u no_error no_manual other = response-body request.tainting request head other

pub keeps_body : KeepsBody
keeps_body request hop head response no_manual other =
    rw (
      not-true hop.preflight response.allowed.sent,
      not-true (is_refused request head.headers) response.allowed.allowed,
      not-true (is_followed request head) response.last,
    )
    (body-by (is_unfollowed request head) request head refl (not-true (is_error request head) response.no_error)
    (not-true (is_manual request head) no_manual) other)
