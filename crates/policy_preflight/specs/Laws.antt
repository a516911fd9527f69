-- Laws of the CORS protocol (Fetch, "CORS check" and section 4.8 "CORS-preflight fetch").
use Rattle.std.specs.Prelude.{◌≡◌, ◌≢◌, ◌≤◌, Bool, true, false, List, codes, Some}
use Rattle.std.specs.Prelude.{IsTrue}
use Rattle.policy_preflight.specs.Words.{Head, Header, IsRequest, Request, Text, combined, is_token, list_all}
use Rattle.policy_preflight.specs.Words.{is_include, passes_check, passes_cors_check, preflight_view}
use Rattle.policy_preflight.specs.declared.answer.Checked.{Checked}
use Rattle.policy_preflight.specs.declared.answer.Checked.TheVariants.{Pass, Refused}
use Rattle.policy_preflight.specs.Verdict.{verdict}

-- with credentials no request passes the CORS check where Access-Control-Allow-Origin is `*`
abbrev pub CredentialsNeverByWildcard : Type 0
CredentialsNeverByWildcard =
    (request : Request) (headers : List Header) → IsTrue (is_include request.credentials)
    → combined (codes "Access-Control-Allow-Origin") headers ≡ Some (codes "*")
    → passes_check request headers ≡ false

-- and no text does but `*`, which is the text of no origin
abbrev pub StarPassesNoOther : Type 0
StarPassesNoOther =
    (origin : Text) (headers : List Header) → origin ≢ codes "*"
    → combined (codes "Access-Control-Allow-Origin") headers ≡ Some (codes "*")
    → passes_cors_check origin true headers ≡ false

-- the verdict on what a document may learn of the head that answers a preflight is that on the head
abbrev pub VerdictsAreOfViews : Type 0
VerdictsAreOfViews =
    (request : Request) (origin : Text) (names : List Text) (head : Head)
    → verdict request origin names (preflight_view head) ≡ verdict request origin names head

-- and so is the CORS check of it
abbrev pub ChecksAreOfViews : Type 0
ChecksAreOfViews =
    (origin : Text) (include : Bool) (head : Head)
    → passes_cors_check origin include (preflight_view head).headers ≡ passes_cors_check origin include head.headers

-- what a pass teaches may be kept and told: it is for at most 7,200 seconds, and its methods and names are tokens
abbrev pub IsLesson : Checked → Type 0
IsLesson (Pass age methods names) =
    (age ≤ 7200) × IsTrue (list_all is_token methods) × IsTrue (list_all is_token names)
IsLesson (Refused reason) = Unit {0}

-- so it is of every verdict on an answer to the preflight of a request
abbrev pub PassesAreLessons : Type 0
PassesAreLessons =
    (request : Request) (origin : Text) (names : List Text) (head : Head) → IsRequest request
    → IsLesson (verdict request origin names head)
