-- Each rule that looks at a head comes to the same on the head's permitted view.
use Rattle.std.proofs.Common.{◌≡◌, ◌≢◌, ◌∙◌, ◌&&◌, ◌||◌, ◌==◌, ◌∷◌, [], ℕ, Bool, true, false, not, cond, List, codes}
use Rattle.std.proofs.Common.{arith, refl, ap, sym, Option, Some, None, inl, inr}
use Rattle.std.proofs.lemmas.Bool.{cases_Bool, not-true, or_left, or_right, true≢false}
use Rattle.std.proofs.lemmas.Grind.{common_steps}
use Rattle.std.specs.Option.{option_or}
use Rattle.std.specs.Prelude.{IsTrue}
use Rattle.url.specs.Parts.{Parts}
use Rattle.value_lists.specs.declared.extract.Extracted.TheVariants.{Items}
use Rattle.value_lists.specs.declared.extract.Rule.TheVariants.{Single}
use Rattle.value_headers.specs.declared.headers.Header.{Header}
use Rattle.value_lists.specs.Extract.{extracted, extracted_of}
use Rattle.value_headers.specs.Headers.{contains, is_named, values_of}
use Rattle.value_requests.specs.declared.error.NetError.{NetError}
use Rattle.value_requests.specs.declared.error.NetError.TheVariants.{Coding, CorsCheck, Corp, CspResponse, Mime}
use Rattle.value_requests.specs.declared.error.NetError.TheVariants.{NoSniff, RedirectCredentials, RedirectMode}
use Rattle.value_requests.specs.declared.error.NetError.TheVariants.{RedirectScheme, TooManyRedirects}
use Rattle.value_requests.specs.declared.hop.Head.{Head}
use Rattle.value_requests.specs.declared.hop.Hop.{Hop}
use Rattle.value_requests.specs.declared.mode.Tainting.{Tainting}
use Rattle.value_requests.specs.declared.mode.Tainting.TheVariants as tainting
use Rattle.value_requests.specs.declared.request.Request.{Request}
use Rattle.value_requests.specs.declared.response.Outcome.TheVariants.{Error, Loaded}
use Rattle.value_requests.specs.declared.response.Response.{Response}
use Rattle.value_requests.specs.Requests.{current_url, is_http_url, most_redirects}
use Rattle.policy_filter.proofs.LawLemmas.{keeps_blocking, keeps_body, keeps_cors_check, keeps_filtered, keeps_redirect}
use Rattle.policy_filter.proofs.LawLemmas.{keeps_resource_policy, keeps_target}
use Rattle.policy_filter.proofs.ViewLemmas.{absent-extracted}
use Rattle.policy_filter.specs.Blocks.{is_nosniff_blocked, is_type_blocked}
use Rattle.policy_filter.specs.Laws.{HasSameBody, IsAllowed, IsResponse, IsSameBlock, LeadsAlike, is_opaque_tainted}
use Rattle.policy_filter.specs.Views.{is_error, is_followed, is_manual, is_refused, is_refused_by}
use Rattle.policy_checks.specs.ResourcePolicy.{is_blocked}
use Rattle.policy_checks.specs.CorsCheck.{passes_check}
use Rattle.policy_filter.specs.Views.{permitted_view}
use Rattle.fetch_answers.specs.declared.answers.Ended.{Ended}
use Rattle.fetch_answers.specs.declared.answers.Ended.TheVariants.{Over, Reads}
use Rattle.fetch_answers.specs.declared.answers.Redirection.{Redirection}
use Rattle.fetch_answers.specs.declared.answers.Redirection.TheVariants.{Stays, Refuses, Goes}
use Rattle.fetch_answers.specs.Bodies.{has_null_body, is_coded}
use Rattle.fetch_answers.specs.Endings.{block_error, ended_by, ended_unblocked, is_bodiless, is_read, response_of}
use Rattle.fetch_answers.specs.Endings.{without_body}
use Rattle.fetch_answers.specs.Following.{redirected_request}
use Rattle.fetch_answers.specs.Judging.{check_error, is_to_follow}
use Rattle.std.specs.Bool.{then_some}
use Rattle.fetch_answers.specs.Laws.{IsLast, IsPassed, KeepsEnding, KeepsRedirected, KeepsRedirection, KeepsRefusal}
use Rattle.fetch_answers.specs.Redirects.{extracted_url, redirection, redirection_by}
use Rattle.fetch_answers.specs.Redirects.{redirection_where, shows_credentials}

-- ---- tests

denied : (a : Bool) → a ≡ false → IsTrue (not a)
denied a e = rw e refl

-- ---- refusals

-- no error is there where the test fails
where-none : (is : Bool) (error : NetError) → then_some is error ≡ None → is ≡ false
where-none true error e = cc
where-none false error e = refl

-- the check of a response refuses it, with an error
refused-error : (by : Tainting) (request : Request) (headers : List Header) → is_refused_by by request headers ≡ true
    → (error : NetError) × (check_error by request headers ≡ Some error)
refused-error tainting.Basic request headers e = absurd (grind arith)
refused-error tainting.Cors request headers e = (CorsCheck, ap (λ is. then_some is CorsCheck) e)
refused-error tainting.Opaque request headers e = (Corp, ap (λ is. then_some is Corp) e)

-- and where there is no error it does not
passed-allowed : (by : Tainting) (request : Request) (headers : List Header) → check_error by request headers ≡ None
    → is_refused_by by request headers ≡ false
passed-allowed tainting.Basic request headers e = refl
passed-allowed tainting.Cors request headers e = where-none (not (passes_check request headers)) CorsCheck e
passed-allowed tainting.Opaque request headers e = where-none (is_blocked request headers) Corp e

-- of two that are absent
first-none : (a b : Option NetError) → option_or a b ≡ None → a ≡ None
first-none None b e = refl
first-none (Some error) b e = cc

second-none : (a b : Option NetError) → option_or a b ≡ None → b ≡ None
second-none None b e = e
second-none (Some error) b e = cc

-- the check by the tainting is the same on the view
checks-same : (by : Tainting) (request : Request) (hop : Hop) (head : Head) → request.tainting ≡ by
    → hop.preflight ≡ false
    → check_error by request (permitted_view request hop head).headers ≡ check_error by request head.headers
checks-same tainting.Basic request hop head is sent = refl
checks-same tainting.Cors request hop head is sent =
    ap (λ passes. then_some (not passes) CorsCheck) (keeps_cors_check request hop head (rw (sent, is) refl))
checks-same tainting.Opaque request hop head is sent =
    ap (λ blocked. then_some blocked Corp) (keeps_resource_policy request hop head (rw (sent, is) refl))

pub keeps_refusal : KeepsRefusal
keeps_refusal request hop head sent =
    let view = permitted_view request hop head in
    let checks = checks-same request.tainting request hop head refl (not-true hop.preflight sent) in
    let after =
    λ (w : Head) (check : Option NetError). option_or check (then_some (is_error request w) RedirectMode) in
    elim (cases_Bool (is_refused request head.headers)) [
      | inl refused ↦
          let error = refused-error request.tainting request head.headers refused in
          ap (after view) (checks ∙ error.1) ∙ sym (ap (after head) error.1)
      | inr allowed ↦
          let same =
          keeps_redirect request hop head
          (record { sent = sent; allowed = denied (is_refused request head.headers) allowed }) in
          ap (after view) checks
          ∙ ap
          (λ is. option_or (check_error request.tainting request head.headers) (then_some is RedirectMode))
          same.error
    ]

-- ---- redirects

allowed-of : (request : Request) (hop : Hop) (head : Head) → IsPassed request hop head → IsAllowed request hop head
allowed-of request hop head passed = record {
  sent = passed.sent;
  allowed = denied (is_refused request head.headers)
      (passed-allowed request.tainting request head.headers
      (first-none (check_error request.tainting request head.headers) (then_some (is_error request head) RedirectMode)
      passed.passed));
}

-- a redirect that leads nowhere
stays-by : (follow : Bool) (request : Request) (headers : List Header)
    → (follow && contains (codes "Location") headers) ≡ false
    → cond follow (redirection_by request (extracted Single (codes "Location") headers)) Stays ≡ Stays
stays-by true request headers e =
    ap (redirection_by request) (absent-extracted Single (codes "Location") headers e)
stays-by false request headers e = refl

unfollowed-stays : (request : Request) (head : Head) → is_followed request head ≡ false
    → redirection request head ≡ Stays
unfollowed-stays request head e = stays-by (is_to_follow request head) request head.headers e

-- where the status and the values of Location are the same, it leads to the same
leads-same : (request : Request) (view head : Head) → LeadsAlike view head
    → redirection request view ≡ redirection request head
leads-same request view head alike = rw (alike.status, alike.location) refl

pub keeps_redirection : KeepsRedirection
keeps_redirection request hop head passed =
    let view = permitted_view request hop head in
    let allowed = allowed-of request hop head passed in
    elim (cases_Bool (is_followed request head)) [
      | inl followed ↦ leads-same request view head (keeps_target request hop head allowed followed)
      | inr not ↦
          let same = keeps_redirect request hop head allowed in
          unfollowed-stays request view (same.followed ∙ not) ∙ sym (unfollowed-stays request head not)
    ]

-- where the status and the values of Referrer-Policy are the same, the request is the same
redirected-same : (request : Request) (view head : Head) (url : Parts) → LeadsAlike view head
    → redirected_request request view url ≡ redirected_request request head url
redirected-same request view head url alike = rw (alike.status, alike.policy) refl

pub keeps_redirected : KeepsRedirected
keeps_redirected request hop head url passed goes =
    let view = permitted_view request hop head in
    elim (cases_Bool (is_followed request head)) [
      | inl followed ↦
          redirected-same request view head url
          (keeps_target request hop head (allowed-of request hop head passed) followed)
      | inr not ↦ let stays = unfollowed-stays request head not in cc (goes, stays)
    ]

-- ---- a redirect that is followed does not stay

-- it leads elsewhere or is refused
abbrev leads : Redirection → Bool
leads Stays = false
leads _ = true

leads-to : (a b c : Bool) (url : Parts)
    → leads
    (cond a (Refuses RedirectScheme)
    (cond b (Refuses TooManyRedirects) (cond c (Refuses RedirectCredentials) (Goes url))))
    ≡ true
leads-to true b c url = refl
leads-to false true c url = refl
leads-to false false true url = refl
leads-to false false false url = refl

leads-where : (request : Request) (url : Option Parts) → leads (redirection_where request url) ≡ true
leads-where request None = refl
leads-where request (Some url) =
    leads-to (not (is_http_url url)) (request.redirects == most_redirects) (shows_credentials request url) url

leads-values : (request : Request) (values : List (List ℕ)) → values ≢ []
    → leads (redirection_by request (extracted_of Single values)) ≡ true
leads-values request [] some = absurd (some refl)
leads-values request (value ∷ []) some = leads-where request (extracted_url (current_url request) (Items (value ∷ [])))
leads-values request (value ∷ other ∷ values) some = refl

some-values : (name : List ℕ) (headers : List Header) → contains name headers ≡ true → values_of name headers ≢ []
some-values name [] e none = absurd (grind arith)
some-values name (header ∷ headers) e none =
    elim (cases_Bool (is_named name header)) [
      | inl is ↦ absurd (grind (arith, common_steps, is))
      | inr not ↦ some-values name headers (rw not at e) (rw not at none)
    ]

followed-leads-by : (follow : Bool) (request : Request) (headers : List Header)
    → (follow && contains (codes "Location") headers) ≡ true
    → leads (cond follow (redirection_by request (extracted Single (codes "Location") headers)) Stays) ≡ true
followed-leads-by true request headers e =
    leads-values request (values_of (codes "Location") headers) (some-values (codes "Location") headers e)
followed-leads-by false request headers e = absurd (grind arith)

stays-unfollowed : (request : Request) (head : Head) → redirection request head ≡ Stays
    → is_followed request head ≡ false
stays-unfollowed request head stays =
    elim (cases_Bool (is_followed request head)) [
      | inl followed ↦
          absurd
          (true≢false
          (sym (followed-leads-by (is_to_follow request head) request head.headers followed) ∙ ap leads stays))
      | inr not ↦ not
    ]

-- ---- the end

response-of : (request : Request) (hop : Hop) (head : Head) → IsLast request hop head → IsResponse request hop head
response-of request hop head last =
    let none =
    second-none (check_error request.tainting request head.headers)
    (then_some (is_error request head) RedirectMode) last.passed.passed in
    record {
      allowed = allowed-of request hop head last.passed;
      last = denied (is_followed request head) (stays-unfollowed request head last.stays);
      no_error = denied (is_error request head) (where-none (is_error request head) RedirectMode none);
    }

-- what blocks for the type
abbrev errors : Bool → Bool → Bool → Option NetError
errors blocked kind nosniff =
    cond blocked (Some CspResponse) (cond kind (Some Mime) (cond nosniff (Some NoSniff) None))

blocks-same : (blocked : Bool) (request : Request) (view head : Head) → IsSameBlock request view head
    → block_error blocked request.destination view.headers ≡ block_error blocked request.destination head.headers
blocks-same blocked request view head same =
    ap (λ kind. errors blocked kind (is_nosniff_blocked request.destination view.headers)) same.kind
    ∙ ap (errors blocked (is_type_blocked request.destination head.headers)) same.nosniff

by-error : (error : Option NetError) (request : Request) (view head : Head)
    → ended_unblocked request view ≡ ended_unblocked request head
    → ended_by error request view ≡ ended_by error request head
by-error None request view head same = same
by-error (Some error) request view head same = refl

-- by whether the body is null or coded, and by the response
abbrev unblocked : Request → Bool → Bool → Response → Ended
unblocked request bodiless coded response =
    cond bodiless (Over (without_body request response))
    (cond (not (is_read request)) (Over Loaded) (cond coded (Over (Error Coding)) (Reads response)))

-- a body that is null
bodiless-same : (request : Request) (view head : Head) → is_bodiless request view ≡ true
    → is_bodiless request head ≡ true → response_of request view ≡ response_of request head
    → ended_unblocked request view ≡ ended_unblocked request head
bodiless-same request view head a b responses =
    ap (λ null. unblocked request null (is_coded view) (response_of request view)) a
    ∙ ap (λ response. Over (without_body request response)) responses
    ∙ sym (ap (λ null. unblocked request null (is_coded head) (response_of request head)) b)

-- a body that rests on the status and on Content-Encoding
null-same : (request : Request) (view head : Head) → view.status ≡ head.status
    → has_null_body request view ≡ has_null_body request head
null-same request view head status = rw status refl

coded-same : (view head : Head)
    → values_of (codes "Content-Encoding") view.headers ≡ values_of (codes "Content-Encoding") head.headers
    → is_coded view ≡ is_coded head
coded-same view head values = rw values refl

body-same : (request : Request) (view head : Head) → is_manual request view ≡ is_manual request head
    → HasSameBody view head → response_of request view ≡ response_of request head
    → ended_unblocked request view ≡ ended_unblocked request head
body-same request view head manual same responses =
    let opaque = is_opaque_tainted request.tainting in
    let null =
    ap (λ is. opaque || is || has_null_body request view) manual
    ∙ ap (λ is. opaque || is_manual request head || is) (null-same request view head same.status) in
    ap (λ is. unblocked request is (is_coded view) (response_of request view)) null
    ∙ ap (λ is. unblocked request (is_bodiless request head) is (response_of request view))
    (coded-same view head same.coding)
    ∙ ap (unblocked request (is_bodiless request head) (is_coded head)) responses

unblocked-same : (request : Request) (hop : Hop) (head : Head) → IsResponse request hop head
    → ended_unblocked request (permitted_view request hop head) ≡ ended_unblocked request head
unblocked-same request hop head response =
    let view = permitted_view request hop head in
    let opaque = is_opaque_tainted request.tainting in
    let manual = (keeps_redirect request hop head response.allowed).manual in
    let responses = keeps_filtered request hop head response in
    elim (cases_Bool opaque) [
      | inl is ↦
          bodiless-same request view head
          (or_left (opaque || is_manual request view) (has_null_body request view)
          (or_left opaque (is_manual request view) is))
          (or_left (opaque || is_manual request head) (has_null_body request head)
          (or_left opaque (is_manual request head) is))
          responses
      | inr plain ↦ elim (cases_Bool (is_manual request head)) [
        | inl is ↦
            bodiless-same request view head
            (or_left (opaque || is_manual request view) (has_null_body request view)
            (or_right opaque (is_manual request view) (manual ∙ is)))
            (or_left (opaque || is_manual request head) (has_null_body request head)
            (or_right opaque (is_manual request head) is))
            responses
        | inr not ↦
            body-same request view head manual
            (keeps_body request hop head response (denied (is_manual request head) not) (denied opaque plain)) responses
      ]
    ]

pub keeps_ending : KeepsEnding
keeps_ending request hop head blocked last plain =
    let view = permitted_view request hop head in
    let response = response-of request hop head last in
    let block = keeps_blocking request hop head response plain in
    ap (λ error. ended_by error request view) (blocks-same blocked request view head block)
    ∙ by-error (block_error blocked request.destination head.headers) request view head
    (unblocked-same request hop head response)
