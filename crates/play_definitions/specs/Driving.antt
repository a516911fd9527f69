-- What a fetch by itself comes to in a document's world.
use Rattle.std.specs.Prelude.{ℕ, ◌≡◌, List, MatchResult, Result}
use Rattle.play_definitions.specs.declared.fetch.FetchRun.{FetchRun}
use Rattle.play_definitions.specs.Words.{Answering, Driven, Event, Input, IsIdle, Outcome, OutOfMemory, Process, Trace}
use Rattle.play_definitions.specs.Words.{events_of, with_events}
use Rattle.play_definitions.specs.Worlds.{Outside, World, WorldAnswers, WorldRefused, outside_of}

-- with these items of a tape a process shows these events in the world of a document, and goes on
abbrev pub LeadsOn : {State : Type 0} → Answering State → ℕ → ℕ → Process → World State → List Input → List Event
    → Process → World State → Type 0
LeadsOn by limit document = Trace (with_events (WorldAnswers by limit document) events_of)

-- From a world in which nothing is to come, for some tape each item is the world's answer, what was shown is what the
-- fetch shows over that tape, and its outcome is the fetch's.
pub record FetchPlayed {State : Type 0} (by : Answering State) (limit document : ℕ) (whole : Process)
    (old : Outside State) (events : List Event) (outcome : Outcome) (new : Outside State) : Type 0 where
  pub first : World State
  pub idle : IsIdle first.exchange
  pub from : outside_of first ≡ old
  pub last : World State
  pub driven : Driven (WorldAnswers by limit document) events_of whole first events outcome last
  pub to : outside_of last ≡ new

-- Memory was refused: the fetch came to some place, and the calls that were made are those on the way.
pub record DriveCut {State : Type 0} (by : Answering State) (limit document : ℕ) (whole : Process)
    (old new : Outside State) : Type 0 where
  pub first : World State
  pub idle : IsIdle first.exchange
  pub from : outside_of first ≡ old
  pub tape : List Input
  pub events : List Event
  pub place : Process
  pub last : World State
  pub trace : LeadsOn by limit document whole first tape events place last
  pub left : WorldRefused (outside_of last) new

-- what a fetch by itself came to
abbrev pub DriveCameTo : {State : Type 0} → Answering State → ℕ → ℕ → Process → Outside State
    → Result FetchRun OutOfMemory → Outside State → Type 0
DriveCameTo by limit document whole old result new =
    MatchResult result (λ run. FetchPlayed by limit document whole old run.events run.outcome new)
    (λ refused. DriveCut by limit document whole old new)
