-- Laws of a whole fetch and of what a document may learn of the answers to it (this project's own definition; Fetch,
-- section 4).
use Rattle.std.specs.Prelude.{◌≡◌, IsTrue, List, None}
use Rattle.value_requests.specs.declared.request.Request.{Request}
use Rattle.policy_filter.specs.Laws.{follows_or_fetches}
use Rattle.fetch_acts.specs.declared.act.Act.{Act}
use Rattle.fetch_acts.specs.declared.act.Input.{Input}
use Rattle.fetch_acts.specs.Process.{Process, run}
use Rattle.fetch_acts.specs.Readings.{shown}
use Rattle.fetch_definitions.specs.Fetch.{fetch}
use Rattle.fetch_definitions.specs.Then.{Context}
use Rattle.fetch_laws.specs.Apart.{apart, plan_of, replies_on, views_on}
use Rattle.fetch_laws.specs.Blind.{Blind, ShowsNoHead}

-- a fetch goes on from the permitted view of each head as from the head, where the redirect mode is follow or the
-- destination that of a `fetch`, as of each request that a document makes
abbrev pub GoesByViews : Type 0
GoesByViews =
    (context : Context) (request : Request) → IsTrue (follows_or_fetches request)
    → Blind None (fetch context request)

-- so a fetch's run over a tape is that over the book's replies, and over what the document may learn of all else
abbrev pub RunsApart : Type 0
RunsApart =
    (context : Context) (request : Request) (tape : List Input) → IsTrue (follows_or_fetches request)
    → let whole = fetch context request in
    run whole tape ≡ apart whole (replies_on (plan_of whole) tape) (views_on (plan_of whole) tape)

-- Two tapes have equal replies to the ops of a process, and equal views.
pub record LookAlike (whole : Process) (tape other : List Input) : Type 0 where
  pub replies : replies_on (plan_of whole) tape ≡ replies_on (plan_of whole) other
  pub views : views_on (plan_of whole) tape ≡ views_on (plan_of whole) other

-- over tapes that look alike a fetch has the same run
abbrev pub RunsAlike : Type 0
RunsAlike =
    (context : Context) (request : Request) (tape other : List Input) → IsTrue (follows_or_fetches request)
    → LookAlike (fetch context request) tape other
    → run (fetch context request) tape ≡ run (fetch context request) other

-- over such tapes it shows the same, whatever events its acts show, as long as they show no head
abbrev pub ShowsAlike : Type 0 → Type 0
ShowsAlike Event =
    (events_of : Act → Input → List Event) → ShowsNoHead events_of
    → (context : Context) (request : Request) (tape other : List Input) → IsTrue (follows_or_fetches request)
    → LookAlike (fetch context request) tape other
    → shown events_of (fetch context request) tape ≡ shown events_of (fetch context request) other
