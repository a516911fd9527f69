-- What a document's run comes to in the document's world.
use Rattle.std.specs.Prelude.{[], ℕ, ◌++◌, ◌≡◌, ◌≤◌, List, Some, length}
use Rattle.play_definitions.specs.Words.{Answering, Ending, Event, Input, IsIdle, Memory, Play, PlayTrace, over}
use Rattle.play_definitions.specs.Words.{run_play}
use Rattle.play_definitions.specs.Worlds.{Outside, Settles, World, WorldAnswers, WorldRefused, outside_of}

-- with these items of a tape a run shows these events in the world of a document, and goes on
abbrev pub PlaysOn : {State : Type 0} → Answering State → ℕ → ℕ → Play → World State → List Input → List Event → Play
    → World State → Type 0
PlaysOn by limit document = PlayTrace (WorldAnswers by limit document) Settles

-- From a world in which nothing is to come, for some tape each item is the world's answer, and what was shown is the
-- run over that tape: `runs` follows from the trace, and says the same by the run's own function.
pub record RunPlayed {State : Type 0} (by : Answering State) (limit document : ℕ) (whole : Play) (old : Outside State)
    (events : List Event) (ending : Ending) (clock : ℕ) (new : Outside State) : Type 0 where
  pub first : World State
  pub idle : IsIdle first.exchange
  pub from : outside_of first ≡ old
  pub tape : List Input
  pub last : World State
  pub trace : PlaysOn by limit document whole first tape events (over ending clock) last
  pub to : outside_of last ≡ new
  pub runs : run_play whole tape ≡ record { events = events; ending = Some (ending, clock) }

-- The same of a run that ended for memory: what was shown begins the run over that tape, up to some place of it but for
-- one event at most, and the calls that were made are those on the way. (`(run_play place []).events`
-- are the events that the place would show with no input.)
pub record RunCut {State : Type 0} (by : Answering State) (limit document : ℕ) (whole : Play) (old : Outside State)
    (events : List Event) (new : Outside State) : Type 0 where
  pub first : World State
  pub idle : IsIdle first.exchange
  pub from : outside_of first ≡ old
  pub tape : List Input
  pub missed : List Event
  pub few : length missed ≤ 1
  pub place : Play
  pub last : World State
  pub trace : PlaysOn by limit document whole first tape (events ++ missed) place last
  pub left : WorldRefused (outside_of last) new
  pub runs : (run_play whole tape).events ≡ events ++ (missed ++ (run_play place []).events)

-- what a document's run comes to, by its ending
abbrev pub RunCameTo : {State : Type 0} → Answering State → ℕ → ℕ → Play → Outside State → List Event → Ending → ℕ
    → Outside State → Type 0
RunCameTo by limit document whole old events Memory clock new = RunCut by limit document whole old events new
RunCameTo by limit document whole old events ending clock new =
    RunPlayed by limit document whole old events ending clock new
