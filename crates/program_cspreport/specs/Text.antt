-- The printed text of the reports of a play (this project's own).
use Rattle.std.specs.Prelude.{◌≡◌, ℕ, ◌+◌, Bool, true, List, [], ◌∷◌, ◌++◌, codes, decimal, if◌then◌else◌}
use Rattle.book_calls.specs.declared.entry.Entry.{Entry}
use Rattle.play_text.specs.Text.{history_text}
use Rattle.report_delivery.specs.declared.delivery.Delivered.{Delivered}
use Rattle.report_delivery.specs.declared.delivery.DeliveredEnd.{DeliveredEnd}
use Rattle.report_delivery.specs.declared.delivery.DeliveredEnd.TheVariants.{Finished, Reports, Text}
use Rattle.report_play.specs.Plays.{IsReportedPlay}
use Rattle.script_events.specs.declared.events.Event.{Event}
use Rattle.script_events.specs.declared.events.Transcript.{Transcript}
use Rattle.script_lines.specs.Lines.{event_text, line}
use Rattle.script_filling.specs.Results.{is_result}
use Rattle.script_scenarios.specs.declared.scenario.Scenario.{Scenario}

-- the line of a report's number, where one begins
abbrev pub begun_line : Bool → ℕ → List ℕ
begun_line begins number = if begins then line (codes "report " ++ decimal number) else []

-- the lines of reports that show these events, numbered from this number on, where the first begins or has begun; a
-- report ends with its result
abbrev pub reports_text : Bool → ℕ → List Event → List ℕ
reports_text begins number [] = []
reports_text begins number (event ∷ events) =
    begun_line begins number ++ event_text event
    ++ reports_text (is_result event) (if is_result event then number + 1 else number) events

-- how a delivery ended
abbrev pub ending_line : DeliveredEnd → List ℕ
ending_line Finished = line (codes "end finished")
ending_line Reports = line (codes "end limit reports")
ending_line Text = line (codes "end limit text")

-- a document: its number and key, its reports in order, and how their delivery ended
abbrev pub delivered_text : Transcript → Delivered → List ℕ
delivered_text transcript delivered =
    line (codes "document " ++ decimal transcript.document ++ codes " " ++ transcript.key)
    ++ reports_text true 0 delivered.events ++ ending_line delivered.ending

-- each document with its reports
abbrev pub documents_text : List Transcript → List Delivered → List ℕ
documents_text (transcript ∷ transcripts) (delivered ∷ delivereds) =
    delivered_text transcript delivered ++ documents_text transcripts delivereds
documents_text _ _ = []

-- the text of the reports of a play: its documents, and the history of scripts and reports
abbrev pub report_text : List Transcript → List Delivered → List Entry → List ℕ
report_text transcripts delivereds history =
    line (codes "cspreport 1") ++ documents_text transcripts delivereds ++ line (codes "history")
    ++ history_text history ++ line (codes "done")

-- The text is that of the reports of a play of the scenario over its own servers.
pub record IsReportText (scenario : Scenario) (text : List ℕ) : Type 0 where
  pub transcripts : List Transcript
  pub delivereds : List Delivered
  pub history : List Entry
  pub play : IsReportedPlay scenario transcripts delivereds history
  pub text_is : text ≡ report_text transcripts delivereds history
