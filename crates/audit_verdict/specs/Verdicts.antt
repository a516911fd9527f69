-- What an audit of a printed play comes to: the first case that applies (this project's own; what a play is,
-- play_isolation defines, what its text is play_text, and which history a text holds audit_text).
use Rattle.std.specs.Prelude.{◌≡◌, ℕ, ◌<◌, List, length, Option, Some, None, Ok, Err}
use Rattle.std.specs.List.{slice_get}
use Rattle.value_text.specs.Texts.{Text}
use Rattle.book_calls.specs.declared.entry.Entry.{Entry}
use Rattle.script_events.specs.declared.events.Transcript.{Transcript}
use Rattle.play_text.specs.Text.{play_text}
use Rattle.script_scenarios.specs.declared.document.Document.{Document}
use Rattle.script_scenarios.specs.declared.scenario.Scenario.{Scenario}
use Rattle.script_reading.specs.Scenarios.{scenario_of}
use Rattle.script_runs.specs.Documents.{EachDocument}
use Rattle.play_definitions.specs.Plays.{IsTranscript, by_rules, opening_book, way_to_servers, ways_to_servers}
use Rattle.audit_replay.specs.Legality.{AreRight, IsIllegalAt, first_stranger}
use Rattle.audit_replay.specs.Differences.{DifferAt}
use Rattle.audit_text.specs.Histories.{HasFault, Holds}
use Rattle.audit_verdict.specs.declared.verdict.Verdict.{Verdict}
use Rattle.audit_verdict.specs.declared.verdict.Verdict.TheVariants as verdict

-- ---- a scenario and a history

-- the book that the scenario opens with gives the history: entry i has turn i, and the book's reply
abbrev pub IsGiven : Scenario → List Entry → Type 0
IsGiven scenario history = AreRight (opening_book scenario) 0 history

-- the first entry that names no document of the scenario
abbrev pub stranger_in : Scenario → List Entry → Option ℕ
stranger_in scenario history = first_stranger (length scenario.documents) history

-- the document of this number comes to this transcript over its entries of the history: its run makes the calls of
-- these entries, in order, and no others
abbrev pub ComesTo : Scenario → List Entry → ℕ → Document → Transcript → Type 0
ComesTo scenario history number document transcript =
    IsTranscript by_rules scenario scenario.now history number document (way_to_servers scenario)
    (way_to_servers scenario) transcript

-- The scenario's document of this number comes to a transcript.
pub record Comes (scenario : Scenario) (history : List Entry) (number : ℕ) : Type 0 where
  pub document : Document
  pub document_is : slice_get scenario.documents number ≡ Some document
  pub transcript : Transcript
  pub comes : ComesTo scenario history number document transcript

-- The document of this number is the first that comes to none.
pub record StopsAt (scenario : Scenario) (history : List Entry) (number : ℕ) : Type 0 where
  pub within : number < length scenario.documents
  pub before : (earlier : ℕ) → earlier < number → Comes scenario history earlier
  pub stops : ¬ (Comes scenario history number)

-- ---- how far an audit gets

-- The bytes are a scenario.
pub record IsScenario (bytes : Text) : Type 0 where
  pub scenario : Scenario
  pub read : scenario_of bytes ≡ Ok scenario

-- They are, and the text holds a history.
pub record HasHistory (bytes play : Text) : Type 0 where
  pub scenario : Scenario
  pub read : scenario_of bytes ≡ Ok scenario
  pub history : List Entry
  pub holds : Holds play history

-- And the book gives the history, whose entries name documents.
pub record IsLegal (bytes play : Text) : Type 0 where
  pub of : HasHistory bytes play
  pub given : IsGiven of.scenario of.history
  pub named : stranger_in of.scenario of.history ≡ None

-- And each document makes just the calls of its entries.
pub record HasRun (bytes play : Text) : Type 0 where
  pub legal : IsLegal bytes play
  pub transcripts : List Transcript
  pub runs : let scenario = legal.of.scenario in
      EachDocument (IsTranscript by_rules scenario scenario.now legal.of.history) 0 scenario.documents
      (ways_to_servers scenario) (ways_to_servers scenario) transcripts

-- the text of the play that was run
abbrev pub text_of_run : {bytes play : Text} → HasRun bytes play → Text
text_of_run ran = play_text ran.transcripts ran.legal.of.history

-- ---- verdicts

-- the verdict on the bytes of a scenario and the text of a play
abbrev pub IsVerdict : Text → Text → Verdict → Type 0
-- the scenario is refused
IsVerdict bytes play (verdict.Scenario place) = scenario_of bytes ≡ Err place
-- the text holds no history
IsVerdict bytes play (verdict.History number) = IsScenario bytes × HasFault play number
-- an entry is not what the book gives
IsVerdict bytes play (verdict.Illegal index) =
    (of : HasHistory bytes play) × IsIllegalAt (opening_book of.scenario) of.history index
-- an entry names no document
IsVerdict bytes play (verdict.Stranger index) =
    (of : HasHistory bytes play) × IsGiven of.scenario of.history
    × (stranger_in of.scenario of.history ≡ Some index)
-- a document makes other calls than those of its entries
IsVerdict bytes play (verdict.Calls number) =
    (legal : IsLegal bytes play) × StopsAt legal.of.scenario legal.of.history number
-- the text is another
IsVerdict bytes play (verdict.Text offset) = (ran : HasRun bytes play) × DifferAt (text_of_run ran) play offset
-- it is a play
IsVerdict bytes play verdict.Play = (ran : HasRun bytes play) × (text_of_run ran ≡ play)
