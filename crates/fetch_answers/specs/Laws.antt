-- Laws of the rules that look at a head: each comes to the same on what a document may learn of the head (this
-- project's own definition; Fetch, sections 4.1, 4.4 and 4.5), so that a fetch rests on nothing else of an answer.
use Rattle.std.specs.Prelude.{◌≡◌, Bool, not, IsTrue, None}
use Rattle.fetch_answers.specs.Words.{Head, Hop, Parts, Request, follows_or_fetches, permitted_view}
use Rattle.fetch_answers.specs.declared.answers.Redirection.TheVariants.{Stays, Goes}
use Rattle.fetch_answers.specs.Endings.{ended}
use Rattle.fetch_answers.specs.Following.{redirected_request}
use Rattle.fetch_answers.specs.Judging.{refusal_after}
use Rattle.fetch_answers.specs.Redirects.{redirection}

-- A head that answers no preflight and is not refused.
pub record IsPassed (request : Request) (hop : Hop) (head : Head) : Type 0 where
  pub sent : IsTrue (not hop.preflight)
  pub passed : refusal_after request head ≡ None

-- A head that a fetch ends with: it is not refused and leads nowhere else.
pub record IsLast (request : Request) (hop : Hop) (head : Head) : Type 0 where
  pub passed : IsPassed request hop head
  pub stays : redirection request head ≡ Stays

-- a head that answers no preflight is refused as its permitted view is
abbrev pub KeepsRefusal : Type 0
KeepsRefusal =
    (request : Request) (hop : Hop) (head : Head) → IsTrue (not hop.preflight)
    → refusal_after request (permitted_view request hop head) ≡ refusal_after request head

-- one that is not refused leads where its view leads
abbrev pub KeepsRedirection : Type 0
KeepsRedirection =
    (request : Request) (hop : Hop) (head : Head) → IsPassed request hop head
    → redirection request (permitted_view request hop head) ≡ redirection request head

-- and with the same request
abbrev pub KeepsRedirected : Type 0
KeepsRedirected =
    (request : Request) (hop : Hop) (head : Head) (url : Parts) → IsPassed request hop head
    → redirection request head ≡ Goes url
    → redirected_request request (permitted_view request hop head) url ≡ redirected_request request head url

-- one that a fetch ends with ends it as its view does, blocked by the document's policies or not, where the redirect
-- mode is follow or the destination that of a `fetch`, as of each request that a document makes
abbrev pub KeepsEnding : Type 0
KeepsEnding =
    (request : Request) (hop : Hop) (head : Head) (blocked : Bool) → IsLast request hop head
    → IsTrue (follows_or_fetches request)
    → ended blocked request (permitted_view request hop head) ≡ ended blocked request head
