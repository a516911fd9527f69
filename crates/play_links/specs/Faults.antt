-- Faults of the links of a play: they come only where outcomes show them, and there are as many as were counted
-- (this project's own; how an outcome shows one is play_faults's definition).
use Rattle.std.specs.Prelude.{◌≡◌, ℕ, ◌+◌, List, Some, None}
use Rattle.fetch_acts.specs.declared.act.Input.{Input}
use Rattle.book_calls.specs.declared.entry.Entry.{Entry}
use Rattle.link_traits.specs.Counts.{counted_on}
use Rattle.script_events.specs.declared.events.Transcript.{Transcript}
use Rattle.script_runs.specs.Documents.{EachDocument}
use Rattle.script_runs.specs.Play.{Play}
use Rattle.script_runs.specs.Runs.{document_run}
use Rattle.script_scenarios.specs.declared.document.Document.{Document}
use Rattle.script_scenarios.specs.declared.scenario.Scenario.{Scenario}
use Rattle.fetch_wire.specs.Exchanges.{Answering}
use Rattle.play_faults.specs.Laws.{AreShown}
use Rattle.play_faults.specs.Numbers.{faults_of}
use Rattle.play_faults.specs.Places.{ShowsFailures}
use Rattle.play_definitions.specs.Plays.{IsTranscript, Way}

-- Of a document's run over this tape, from one moment of its link to another: in each fetch and each load there is one
-- fault at most, and the outcome shows it; so the outcomes show the faults of the tape; and the link's count rose by
-- just as many.
pub record AreTold {State : Type 0} (whole : Play) (tape : List Input) (old new : Way State) (transcript : Transcript)
    : Type 0 where
  pub placed : ShowsFailures None whole
  pub shown : AreShown (faults_of whole tape)
      (record { events = transcript.events; ending = Some (transcript.ending, transcript.clock) })
  pub counted : new.faults ≡ counted_on old.faults (faults_of whole tape)

module _ {State : Type 0} {by : Answering State} {scenario : Scenario} {base : ℕ} {history : List Entry} where
  -- so it is of each document
  abbrev pub AllAreTold : {number : ℕ} {documents : List Document} {olds news : List (Way State)}
      {transcripts : List Transcript}
      → EachDocument (IsTranscript by scenario base history) number documents olds news transcripts → Type 0
  AllAreTold EachDocument.none = Unit {0}
  AllAreTold (EachDocument.one_more {document = document} {old = old} {new = new} {transcript = transcript} is more) =
      AreTold (document_run scenario.cookies base document) is.run_is.ran.tape old new transcript × AllAreTold more

  -- how often the links failed in the runs of all
  abbrev pub all_faults : {number : ℕ} {documents : List Document} {olds news : List (Way State)}
      {transcripts : List Transcript}
      → EachDocument (IsTranscript by scenario base history) number documents olds news transcripts → ℕ
  all_faults EachDocument.none = 0
  all_faults (EachDocument.one_more {document = document} is more) =
      faults_of (document_run scenario.cookies base document) is.run_is.ran.tape + all_faults more
