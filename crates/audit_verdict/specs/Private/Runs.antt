-- What the runs of a scenario's documents over a history come to.
use Rattle.std.specs.Prelude.{◌≡◌, ◌≢◌, ℕ, List, Option, Some, None}
use Rattle.std.specs.List.{slice_get}
use Rattle.book_calls.specs.declared.entry.Entry.{Entry}
use Rattle.script_events.specs.declared.events.Ending.TheVariants.{Memory}
use Rattle.script_events.specs.declared.events.Transcript.{Transcript}
use Rattle.script_events.specs.Endings.{HasText}
use Rattle.script_runs.specs.Documents.{EachDocument}
use Rattle.script_scenarios.specs.declared.document.Document.{Document}
use Rattle.script_scenarios.specs.declared.scenario.Scenario.{Scenario}
use Rattle.play_definitions.specs.Plays.{IsTranscript, by_rules, ways_to_servers}
use Rattle.audit_verdict.specs.Verdicts.{Comes, ComesTo, StopsAt}
use Rattle.audit_verdict.specs.declared.runs.Runs.{Runs}
use Rattle.audit_verdict.specs.declared.runs.Runs.TheVariants as runs

-- The document comes to this transcript, which has a text.
pub record CameTo (scenario : Scenario) (history : List Entry) (number : ℕ) (transcript : Transcript) : Type 0 where
  pub document : Document
  pub document_is : slice_get scenario.documents number ≡ Some document
  pub comes : ComesTo scenario history number document transcript
  pub told : transcript.ending ≢ Memory

-- what the run of one document comes to
abbrev pub IsRun : Scenario → List Entry → ℕ → Option Transcript → Type 0
IsRun scenario history number None = ¬ (Comes scenario history number)
IsRun scenario history number (Some transcript) = CameTo scenario history number transcript

-- All documents come to their transcripts, which have a text.
pub record AllCame (scenario : Scenario) (history : List Entry) (transcripts : List Transcript) : Type 0 where
  pub runs : EachDocument (IsTranscript by_rules scenario scenario.now history) 0 scenario.documents
      (ways_to_servers scenario) (ways_to_servers scenario) transcripts
  pub told : HasText transcripts

-- what the runs of all come to
abbrev pub AreRuns : Scenario → List Entry → Runs → Type 0
AreRuns scenario history (runs.Came transcripts) = AllCame scenario history transcripts
AreRuns scenario history (runs.Stops number) = StopsAt scenario history number
