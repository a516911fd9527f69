-- The CORS check and the verdict rest on a few headers, and of the status only on whether it is an ok status. So they
-- say of what a document may learn of a head what they say of the head.
use Rattle.std.proofs.Common.{◌≡◌, ℕ, Bool, List, codes, refl, inl, inr}
use Rattle.std.proofs.lemmas.Bool.{cases_Bool}
use Rattle.std.specs.Prelude.{bytes_eq, IsTrue}
use Rattle.std.specs.List.{list_any}
use Rattle.value_headers.specs.declared.headers.Header.{Header}
use Rattle.value_headers.specs.Headers.{values_of}
use Rattle.value_requests.specs.declared.hop.Head.{Head}
use Rattle.value_requests.specs.declared.request.Request.{Request}
use Rattle.policy_checks.specs.CorsCheck.{passes_cors_check}
use Rattle.policy_checks.specs.PermittedNames.{only_named, preflight_names, preflight_status, preflight_view}
use Rattle.value_requests.specs.Statuses.{is_ok_status}
use Rattle.policy_checks.proofs.NameLemmas.{values-only_named}
use Rattle.policy_preflight.specs.Verdict.{verdict, verdict_of}

-- the headers of a view
abbrev seen : List Header → List Header
seen headers = only_named preflight_names headers

-- each of the names of a view has the same values in it
kept : (name : List ℕ) → IsTrue (list_any (λ other. bytes_eq other name) preflight_names) → (headers : List Header)
    → values_of name (seen headers) ≡ values_of name headers
kept = values-only_named preflight_names

-- the CORS check
pub checks-seen : (origin : List ℕ) (include : Bool) (headers : List Header)
    → passes_cors_check origin include (seen headers) ≡ passes_cors_check origin include headers
checks-seen origin include headers =
    rw (
      kept (codes "Access-Control-Allow-Origin") refl headers,
      kept (codes "Access-Control-Allow-Credentials") refl headers,
    ) refl

-- whether the status is an ok status
pub ok-seen : (status : ℕ) → is_ok_status (preflight_status status) ≡ is_ok_status status
ok-seen status =
    elim (cases_Bool (is_ok_status status)) [
      | inl ok ↦ rw ok refl
      | inr other ↦ rw other refl
    ]

-- the verdict behind the two
pub verdicts-seen : (request : Request) (unsafe : List (List ℕ)) (headers : List Header)
    → verdict_of request unsafe (seen headers) ≡ verdict_of request unsafe headers
verdicts-seen request unsafe headers =
    rw (
      kept (codes "Access-Control-Max-Age") refl headers,
      kept (codes "Access-Control-Allow-Methods") refl headers,
      kept (codes "Access-Control-Allow-Headers") refl headers,
    ) refl

-- the verdict
pub verdict-seen : (request : Request) (origin : List ℕ) (unsafe : List (List ℕ)) (head : Head)
    → verdict request origin unsafe (preflight_view head) ≡ verdict request origin unsafe head
verdict-seen request origin unsafe head =
    rw (checks-seen origin _ head.headers, ok-seen head.status, verdicts-seen request unsafe head.headers) refl
