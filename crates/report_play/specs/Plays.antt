-- A play of a scenario with the reports of its documents: a play of its scripts, and then, in order of documents, the
-- run of each document's reports, over the scenario's servers and the same book (this project's own; a play, and
-- what comes of acts, are play_definitions's definitions, and the run of reports is report_delivery's).
use Rattle.std.specs.Prelude.{◌≡◌, ℕ, ◌+◌, ◌<◌, List, [], ◌∷◌, ◌++◌, length}
use Rattle.std.specs.List.{AllByRecursion}
use Rattle.book_calls.specs.declared.entry.Entry.{Entry}
use Rattle.book_calls.specs.Entries.{AreInOrderFrom, HasTurnsFrom, Legal, entries_of}
use Rattle.play_definitions.specs.Plays.{IsPlay, RunsOver, by_rules, opening_book, way_to_servers}
use Rattle.report_delivery.specs.declared.delivery.Delivered.{Delivered}
use Rattle.report_delivery.specs.Reporting.{ending_of, reporting}
use Rattle.script_events.specs.declared.events.Transcript.{Transcript}
use Rattle.script_scenarios.specs.declared.document.Document.{Document}
use Rattle.script_scenarios.specs.declared.scenario.Scenario.{Scenario}

-- These are the reports of the scenario's document of this number: those of the violations that its script's run told,
-- at the time at which it ended. They make just the calls of the document's entries among the reports', in order, and
-- come to their ending.
pub record IsReported (scenario : Scenario) (reports : List Entry) (number : ℕ) (document : Document)
    (transcript : Transcript) (delivered : Delivered) : Type 0 where
  pub document_is : delivered.document ≡ number
  pub run_is : RunsOver by_rules scenario.body_limit number (way_to_servers scenario) (way_to_servers scenario)
      (entries_of number reports) (reporting scenario.cookies document transcript.clock transcript.events)
      delivered.events (ending_of delivered.ending) transcript.clock

-- Each document, with its transcript and its reports, is as `Is` says of its number; the numbers go on from this one.
pub data EachReported (Is : ℕ → Document → Transcript → Delivered → Type 0)
    : ℕ → List Document → List Transcript → List Delivered → Type 0 where
  none : {number : ℕ} → EachReported Is number [] [] []
  one_more : {number : ℕ} {document : Document} {transcript : Transcript} {delivered : Delivered}
      {documents : List Document} {transcripts : List Transcript} {delivereds : List Delivered}
      → Is number document transcript delivered → EachReported Is (number + 1) documents transcripts delivereds
      → EachReported Is number (document ∷ documents) (transcript ∷ transcripts) (delivered ∷ delivereds)

-- A play of the scenario over its own servers, from its own time on, with the reports of its documents. Its one history
-- is that of the scripts, which are a play, and then that of the reports, in order of documents. It is legal from the
-- book that the scenario opens with, its entry i has turn i, and each entry names a document.
pub record IsReportedPlay (scenario : Scenario) (transcripts : List Transcript) (delivereds : List Delivered)
    (history : List Entry) : Type 0 where
  pub scripts : List Entry
  pub reports : List Entry
  pub play : IsPlay scenario transcripts scripts
  pub history_is : history ≡ scripts ++ reports
  pub legal : Legal (opening_book scenario) history
  pub turns : HasTurnsFrom 0 history
  pub named : AllByRecursion (λ (entry : Entry). entry.document < length scenario.documents) history
  pub in_order : AreInOrderFrom 0 reports
  pub documents : EachReported (IsReported scenario reports) 0 scenario.documents transcripts delivereds

-- Such a play whose scripts have called the book one document after another, too.
pub record IsReportedInOrder (scenario : Scenario) (transcripts : List Transcript) (delivereds : List Delivered)
    (history : List Entry) : Type 0 where
  pub reported : IsReportedPlay scenario transcripts delivereds history
  pub in_order : AreInOrderFrom 0 reported.scripts
