-- One act of a fetch.
use Rattle.std.specs.Prelude.{ℕ, ◌++◌, ◌<◌, ◌≡◌, ◌≤◌, IsTrue, List, MatchResult, Result}
use Rattle.play_definitions.specs.Fetched.{FetchCut}
use Rattle.play_definitions.specs.Standings.{Standing}
use Rattle.play_fetch.specs.Words.{Act, Answering, Ask, Context, Does, Entry, Event, Fetching, InRange, Input}
use Rattle.play_fetch.specs.Words.{IsSendable, OutOfMemory, Process, Progress, Send, Step, act, after_events}
use Rattle.play_fetch.specs.Words.{events_of, fits, rest}
use Rattle.play_definitions.specs.Worlds.{WorldAnswers}

-- a call of the book is in range, and one may be made; a request has no space in its method and its target
abbrev pub CanAnswer : Act → ℕ → Type 0
CanAnswer (Ask op) left = InRange op × (0 < left)
CanAnswer (Send hop) left = IsSendable hop
CanAnswer _ left = Unit {0}

-- Memory was refused: no entry more is the document's own. Of the calls that are left some may be used up.
pub record IsRefusedCall (own own' : List Entry) (left left' : ℕ) : Type 0 where
  pub own_is : own' ≡ own
  pub fewer : left' ≤ left

-- a fetch, from the act on that it waits for
abbrev pub from_act : Context → Fetching → Act → Process
from_act context fetching first = act fetching.level.request.value first (rest context fetching)

-- The input of the act came, what it shows was added to the events, and the fetch is at its next step.
pub record WentOn {State : Type 0} (by : Answering State) (context : Context) (fetching : Fetching) (first : Act)
    (old : Standing State) (at : Step) (new : Standing State) : Type 0 where
  pub same : new.terms ≡ old.terms
  pub input : Input
  pub fit : IsTrue (fits first input)
  pub came : WorldAnswers by old.terms.limit old.terms.document old.world first input new.world
  pub noted : new.progress ≡ after_events (events_of first input) old.progress
  pub does : Does context at (rest context fetching input)

-- what an act came to: the next step, or want of memory
abbrev pub GoesOn : {State : Type 0} → Answering State → Context → Fetching → Act → Standing State
    → Result Step OutOfMemory → Standing State → Type 0
GoesOn by context fetching first old result new =
    MatchResult result (λ at. WentOn by context fetching first old at new)
    (λ refused. FetchCut by (from_act context fetching first) old new)

-- A first part of what an act shows was added to the events.
pub record PartNoted (first : Act) (input : Input) (old new : Progress) : Type 0 where
  pub made : List Event
  pub missed : List Event
  pub parts : events_of first input ≡ made ++ missed
  pub added : new ≡ after_events made old
