-- Laws of documents' runs: where the failures of a link show, and that there are as many as the link counted
-- (this project's own definition).
use Rattle.std.specs.Prelude.{◌≡◌, ℕ, ◌+◌, ◌≤◌, List, Some, None}
use Rattle.fetch_acts.specs.declared.act.Input.{Input}
use Rattle.value_requests.specs.declared.client.Cookie.{Cookie}
use Rattle.link_traits.specs.Counts.{counted_on, grown_by}
use Rattle.script_events.specs.declared.events.Ending.{Ending}
use Rattle.script_events.specs.declared.events.Event.{Event}
use Rattle.script_scenarios.specs.declared.document.Document.{Document}
use Rattle.script_runs.specs.Play.{Play, PlayRun, run_play}
use Rattle.script_runs.specs.Runs.{document_run}
use Rattle.fetch_wire.specs.Exchanges.{Answering}
use Rattle.play_definitions.specs.Worlds.{Outside}
use Rattle.play_definitions.specs.Playing.{RunCameTo, RunCut, RunPlayed}
use Rattle.play_faults.specs.Failures.{may_hide_fault, tells_fault}
use Rattle.play_faults.specs.Numbers.{faults_of, outcomes_that, unshown}
use Rattle.play_faults.specs.Places.{ShowsFailures}

-- in a document's run the link fails at most once in each fetch and each load, whose outcome shows it, and nowhere else
abbrev pub FaultsPlaced : Type 0
FaultsPlaced =
    (cookies : List Cookie) (base : ℕ) (document : Document)
    → ShowsFailures None (document_run cookies base document)

-- What is shown of some faults: not more than there are; and all but those that an outcome may hide, and one that no
-- outcome shows yet.
pub record AreShown (faults : ℕ) (ran : PlayRun) : Type 0 where
  pub none_more : outcomes_that tells_fault ran.events ≤ faults
  pub none_fewer : faults
      ≤ outcomes_that tells_fault ran.events + outcomes_that may_hide_fault ran.events + unshown ran.ending

-- this holds of a document's run over each tape, and over each beginning of it
abbrev pub FaultsShown : Type 0
FaultsShown =
    (cookies : List Cookie) (base : ℕ) (document : Document) (tape : List Input)
    → let whole = document_run cookies base document in AreShown (faults_of whole tape) (run_play whole tape)

-- and of a document's run over a link, with what it has shown to its end
abbrev pub RanShown : Type 0 → Type 0
RanShown State =
    (by : Answering State) (limit number : ℕ) (cookies : List Cookie) (base : ℕ) (document : Document)
    (old : Outside State) (events : List Event) (ending : Ending) (clock : ℕ) (new : Outside State)
    → (ran : RunPlayed by limit number (document_run cookies base document) old events ending clock new)
    → AreShown (faults_of (document_run cookies base document) ran.tape)
    (record { events = events; ending = Some (ending, clock) })

-- the count of a link rises by as many as a run has faults
abbrev pub FaultsCounted : Type 0 → Type 0
FaultsCounted State =
    (by : Answering State) (limit document : ℕ) (whole : Play) (old : Outside State) (events : List Event)
    (ending : Ending) (clock : ℕ) (new : Outside State)
    → (ran : RunPlayed by limit document whole old events ending clock new)
    → new.faults ≡ counted_on old.faults (faults_of whole ran.tape)

-- the same of a run that ended because memory was refused
abbrev pub FaultsCountedCut : Type 0 → Type 0
FaultsCountedCut State =
    (by : Answering State) (limit document : ℕ) (whole : Play) (old : Outside State) (events : List Event)
    (new : Outside State) → (began : RunCut by limit document whole old events new)
    → new.faults ≡ counted_on old.faults (faults_of whole began.tape)

-- so the count rises by as many as a document is told of, at least
abbrev pub ToldCounted : Type 0 → Type 0
ToldCounted State =
    (by : Answering State) (limit number : ℕ) (cookies : List Cookie) (base : ℕ) (document : Document)
    (old : Outside State) (events : List Event) (ending : Ending) (clock : ℕ) (new : Outside State)
    → RunCameTo by limit number (document_run cookies base document) old events ending clock new
    → grown_by old.faults (outcomes_that tells_fault events) ≤ new.faults
