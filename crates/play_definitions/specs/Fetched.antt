-- What a fetch inside a document's run comes to in the document's world.
use Rattle.std.specs.Prelude.{◌++◌, ◌≡◌, ◌≤◌, List, MatchResult, Result, length}
use Rattle.play_definitions.specs.Driving.{LeadsOn}
use Rattle.play_definitions.specs.Standings.{Standing}
use Rattle.play_definitions.specs.Words.{Answering, Event, Input, Outcome, OutOfMemory, Process, after_events, ended}
use Rattle.play_definitions.specs.Worlds.{WorldRefused, outside_of}

-- The process came to this place: for some tape of the world's answers it has shown what was added to the events.
pub record FetchReached {State : Type 0} (by : Answering State) (whole : Process) (old : Standing State)
    (place : Process) (new : Standing State) : Type 0 where
  pub same : new.terms ≡ old.terms
  pub tape : List Input
  pub made : List Event
  pub added : new.progress ≡ after_events made old.progress
  pub trace : LeadsOn by old.terms.limit old.terms.document whole old.world tape made place new.world

-- What memory cost once these events were made, which led to a last standing: a first part of these events was noted,
-- and one at most was not; the world is as a refusal leaves it.
pub record HasLost {State : Type 0} (made : List Event) (old last new : Standing State) : Type 0 where
  pub same : new.terms ≡ old.terms
  pub noted : List Event
  pub missed : List Event
  pub few : length missed ≤ 1
  pub parts : made ≡ noted ++ missed
  pub added : new.progress.shown ≡ old.progress.shown ++ noted
  pub refused : WorldRefused (outside_of last.world) (outside_of new.world)

-- Memory was refused: the fetch came to some place, and of the run inside nothing changed but what was shown.
pub record FetchCut {State : Type 0} (by : Answering State) (whole : Process) (old new : Standing State) : Type 0 where
  pub place : Process
  pub last : Standing State
  pub came : FetchReached by whole old place last
  pub lost : HasLost came.made old last new
  pub kept : new.progress ≡ record old.progress { shown = new.progress.shown }

-- what a fetch came to, with an outcome or for want of memory
abbrev pub FetchCameTo : {State : Type 0} → Answering State → Process → Standing State → Result Outcome OutOfMemory
    → Standing State → Type 0
FetchCameTo by whole old result new =
    MatchResult result (λ outcome. FetchReached by whole old (ended outcome) new) (λ refused. FetchCut by whole old new)
