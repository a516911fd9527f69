-- What an answer that passes teaches is for at most 7,200 seconds, and its methods and names are tokens.
use Rattle.std.proofs.Common.{◌≤◌, ◌∷◌, [], ℕ, List, Option, Some, None, unwrap_or, inl, inr, refl, arith, codes}
use Rattle.std.proofs.lemmas.Bool.{cases_Bool}
use Rattle.std.proofs.lemmas.Grind.{common_steps}
use Rattle.std.specs.Prelude.{IsTrue}
use Rattle.std.specs.List.{flat_map, list_all}
use Rattle.value_text.specs.Digits.{capped_digits, is_digits}
use Rattle.value_text.specs.Tokens.{is_token}
use Rattle.value_lists.specs.declared.extract.Extracted.{Extracted}
use Rattle.value_lists.specs.declared.extract.Extracted.TheVariants.{Absent, Failure, Items}
use Rattle.value_lists.specs.declared.extract.Rule.TheVariants.{Digits, Tokens}
use Rattle.value_headers.specs.declared.headers.Header.{Header}
use Rattle.value_lists.specs.Extract.{extracted, extracted_of, items, token_list}
use Rattle.value_headers.specs.Headers.{values_of}
use Rattle.value_requests.specs.declared.hop.Head.{Head}
use Rattle.value_requests.specs.declared.request.Request.{Request}
use Rattle.value_requests.specs.Modes.{is_include}
use Rattle.policy_checks.specs.CorsCheck.{passes_cors_check}
use Rattle.value_requests.specs.Requests.{IsRequest}
use Rattle.value_requests.specs.Statuses.{is_ok_status}
use Rattle.policy_preflight.specs.Laws.{IsLesson}
use Rattle.policy_preflight.specs.Verdict.{age_of, allows_authorization, allows_method, first_refused, methods_of}
use Rattle.policy_preflight.specs.Verdict.{names_of}
use Rattle.policy_preflight.specs.Verdict.{unless_refused, verdict, verdict_by, verdict_of, verdict_where}
use Rattle.policy_preflight.specs.declared.answer.Checked.TheVariants.{Pass}

-- the texts, where there are some, are tokens
abbrev AreTokens : Option (List (List ℕ)) → Type 0
AreTokens None = Unit {0}
AreTokens (Some texts) = IsTrue (list_all is_token texts)

-- ---- the age

capped-small : (digits : List ℕ) → unwrap_or (capped_digits digits 7200) 5 ≤ 7200
capped-small digits =
    elim (cases_Bool (is_digits digits)) [
      | inl are ↦ rw are (grind (arith, common_steps))
      | inr other ↦ rw other (grind (arith, common_steps))
    ]

pub age-small : (found : Extracted) → age_of found ≤ 7200
age-small Absent = grind (arith)
age-small Failure = grind (arith)
age-small (Items []) = grind (arith)
age-small (Items (digits ∷ more)) = capped-small digits

-- ---- the lists

listed-names : (texts : List (List ℕ)) → AreTokens (names_of (token_list texts))
listed-names texts =
    elim (cases_Bool (list_all is_token texts)) [
      | inl are ↦ rw are are
      | inr other ↦ rw other tt
    ]

names-tokens : (values : List (List ℕ)) → AreTokens (names_of (extracted_of Tokens values))
names-tokens [] = refl
names-tokens (value ∷ values) = listed-names (flat_map items (value ∷ values))

listed-methods : (request : Request) (texts : List (List ℕ)) → AreTokens (methods_of request (token_list texts))
listed-methods request texts =
    elim (cases_Bool (list_all is_token texts)) [
      | inl are ↦ rw are are
      | inr other ↦ rw other tt
    ]

methods-tokens : (request : Request) (values : List (List ℕ)) → IsTrue (is_token request.method)
    → AreTokens (methods_of request (extracted_of Tokens values))
methods-tokens request [] token =
    elim (cases_Bool request.use_preflight) [
      | inl asked ↦ rw (asked, token) refl
      | inr other ↦ rw other refl
    ]
methods-tokens request (value ∷ values) token = listed-methods request (flat_map items (value ∷ values))

-- ---- the verdict

unless-lesson : (refused : Option (List ℕ)) (age : ℕ) (methods names : List (List ℕ))
    → IsLesson (Pass age methods names)
    → IsLesson (unless_refused refused (Pass age methods names))
unless-lesson None age methods names lesson = lesson
unless-lesson (Some name) age methods names lesson = tt

by-lesson : (request : Request) (unsafe : List (List ℕ)) (age : ℕ) (methods names : List (List ℕ))
    → IsLesson (Pass age methods names) → IsLesson (verdict_by request unsafe age methods names)
by-lesson request unsafe age methods names lesson =
    elim (cases_Bool (allows_method request methods)) [
      | inl method ↦ rw method (elim (cases_Bool (allows_authorization request names)) [
        | inl known ↦ rw known
            (unless-lesson (first_refused request.credentials names unsafe) age methods names lesson)
        | inr unknown ↦ rw unknown tt
      ])
      | inr other ↦ rw other tt
    ]

where-lesson : (request : Request) (unsafe : List (List ℕ)) (age : ℕ) (methods names : Option (List (List ℕ)))
    → age ≤ 7200 → AreTokens methods → AreTokens names → IsLesson (verdict_where request unsafe age methods names)
where-lesson request unsafe age None names small listed named = tt
where-lesson request unsafe age (Some methods) None small listed named = tt
where-lesson request unsafe age (Some methods) (Some names) small listed named =
    by-lesson request unsafe age methods names (small, listed, named)

of-lesson : (request : Request) (unsafe : List (List ℕ)) (headers : List Header) → IsTrue (is_token request.method)
    → IsLesson (verdict_of request unsafe headers)
of-lesson request unsafe headers token =
    where-lesson request unsafe
    (age_of (extracted Digits (codes "Access-Control-Max-Age") headers))
    (methods_of request (extracted Tokens (codes "Access-Control-Allow-Methods") headers))
    (names_of (extracted Tokens (codes "Access-Control-Allow-Headers") headers))
    (age-small (extracted Digits (codes "Access-Control-Max-Age") headers))
    (methods-tokens request (values_of (codes "Access-Control-Allow-Methods") headers) token)
    (names-tokens (values_of (codes "Access-Control-Allow-Headers") headers))

pub verdict-lesson : (request : Request) (origin : List ℕ) (unsafe : List (List ℕ)) (head : Head) → IsRequest request
    → IsLesson (verdict request origin unsafe head)
verdict-lesson request origin unsafe head valid =
    elim (cases_Bool (passes_cors_check origin (is_include request.credentials) head.headers)) [
      | inl passes ↦ rw passes (elim (cases_Bool (is_ok_status head.status)) [
        | inl ok ↦ rw ok (of-lesson request unsafe head.headers valid.method)
        | inr other ↦ rw other tt
      ])
      | inr fails ↦ rw fails tt
    ]
