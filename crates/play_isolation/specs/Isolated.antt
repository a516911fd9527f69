-- Isolation in a play: what each document of it sends and sees is what it would alone, over what it may learn of the
-- answers to its requests, what was learnt and cleared under its key, and what was noted of known hosts (this project's
-- own definition).
use Rattle.std.specs.Prelude.{◌≡◌, ℕ, List, Some}
use Rattle.play_isolation.specs.Words.{Answering, Document, EachDocument, Entry, Input, IsPlayOver, IsTranscript, Play}
use Rattle.play_isolation.specs.Words.{PlayRun, Scenario, Transcript, Way, document_client, document_run, opening_book}
use Rattle.play_isolation.specs.Words.{views_on}
use Rattle.play_isolation.specs.Alone.{alone, pasts}
use Rattle.play_isolation.specs.Apart.{plan_of}

-- what a transcript says of its document's run: the events, and the ending with the clock
abbrev pub run_of : Transcript → PlayRun
run_of transcript =
    record { events = transcript.events; ending = Some (transcript.ending, transcript.clock) }

-- the run of a scenario's document, from a time on
abbrev pub run_in : Scenario → ℕ → Document → Play
run_in scenario base document = document_run scenario.cookies base document

-- what a scenario's document of this number would do alone: over what it may learn, with the pasts of its calls in the
-- history
abbrev pub alone_in : Scenario → ℕ → List Entry → ℕ → Document → List Input → PlayRun
alone_in scenario base history number document learnt =
    alone (opening_book scenario) (run_in scenario base document)
    (pasts number (document_client document).key history) learnt

-- the run that the transcript tells is what the document would do alone over the views of the answers of this tape
abbrev pub IsAlone : Scenario → ℕ → List Entry → ℕ → Document → List Input → Transcript → Type 0
IsAlone scenario base history number document tape transcript =
    run_of transcript
    ≡ alone_in scenario base history number document (views_on (plan_of (run_in scenario base document)) tape)

module _ {State : Type 0} {by : Answering State} {scenario : Scenario} {base : ℕ} {history : List Entry} where
  -- so it is of each document of a play, over the tape of its run there
  abbrev pub AllAreAlone : {number : ℕ} {documents : List Document} {olds news : List (Way State)}
      {transcripts : List Transcript}
      → EachDocument (IsTranscript by scenario base history) number documents olds news transcripts → Type 0
  AllAreAlone EachDocument.none = Unit {0}
  AllAreAlone (EachDocument.one_more {number = number} {document = document} {transcript = transcript} is more) =
      IsAlone scenario base history number document is.run_is.ran.tape transcript × AllAreAlone more

-- A play in which what each document sends and sees is what it would alone, over what it may learn of the answers of
-- this play.
pub record IsIsolated {State : Type 0} (by : Answering State) (scenario : Scenario) (base : ℕ)
    (olds news : List (Way State)) (transcripts : List Transcript) (history : List Entry) : Type 0 where
  pub play : IsPlayOver by scenario base olds news transcripts history
  pub alone : AllAreAlone play.runs
