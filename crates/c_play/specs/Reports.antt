-- The text of a play with reports, as the call tells it.
use Rattle.std.specs.Prelude.{◌≡◌, List}
use Rattle.value_text.specs.Texts.{Text}
use Rattle.book_calls.specs.declared.entry.Entry.{Entry}
use Rattle.program_cspreport.specs.Text.{report_text}
use Rattle.report_delivery.specs.declared.delivery.Delivered.{Delivered}
use Rattle.report_play.specs.Plays.{IsReportedInOrder}
use Rattle.script_events.specs.declared.events.Transcript.{Transcript}
use Rattle.script_scenarios.specs.declared.scenario.Scenario.{Scenario}

-- The text is that of the reports of a play of the scenario, whose scripts have called the book one document after
-- another.
pub record IsReportTextInOrder (scenario : Scenario) (text : Text) : Type 0 where
  pub transcripts : List Transcript
  pub delivereds : List Delivered
  pub history : List Entry
  pub is_play : IsReportedInOrder scenario transcripts delivereds history
  pub text_is : text ≡ report_text transcripts delivereds history
