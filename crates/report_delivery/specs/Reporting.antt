-- The delivery of a document's reports as a run: each report is a fetch without policies, at the time at which the
-- document's script has ended (CSP 3, section 5.5 "report a violation"), and the limits at which a delivery ends early
-- (this project's own).
use Rattle.std.specs.Prelude.{ℕ, List, [], ◌∷◌}
use Rattle.script_events.specs.declared.events.Ending.TheVariants as ending
use Rattle.report_delivery.specs.Words.{Cookie, Document, Ending, Event, Next, Play, Request, Result, Setting, at_time}
use Rattle.report_delivery.specs.Words.{beginning, document_client, embed, fetch, fetch_limit, fetch_started, finished}
use Rattle.report_delivery.specs.Words.{setting, showing, unless_limit}
use Rattle.report_delivery.specs.declared.delivery.DeliveredEnd.{DeliveredEnd}
use Rattle.report_delivery.specs.declared.delivery.DeliveredEnd.TheVariants.{Finished, Reports, Text}
use Rattle.report_delivery.specs.Reports.{report_requests}

-- a report: its fetch, and then its result
abbrev pub report_played : Setting → Request → Next → Next
report_played lent request next progress =
    embed (fetch (at_time lent progress.clock) request) (λ came. showing (Result came) next) (fetch_started progress)

-- the reports, in order, up to a limit: 1,024 of them were played, or the lines of their events are longer than
-- 8,388,608 bytes. A report counts as a fetch of the run
abbrev pub reports_played : Setting → List Request → Next → Next
reports_played lent [] next progress = next progress
reports_played lent (request ∷ requests) next progress =
    unless_limit (fetch_limit progress) (report_played lent request (reports_played lent requests next)) progress

-- what the fetches of reports have in common: the document's client, and no policies
abbrev pub reporting_setting : List Cookie → Document → Setting
reporting_setting cookies document = setting (document_client document) [] cookies

-- the reports of a document that was told of violations by these events, from this time on
abbrev pub reporting : List Cookie → Document → ℕ → List Event → Play
reporting cookies document clock events =
    reports_played (reporting_setting cookies document) (report_requests document events) finished (beginning clock)

-- the ending of a run with which a delivery ends
abbrev pub ending_of : DeliveredEnd → Ending
ending_of Finished = ending.Finished
ending_of Reports = ending.Fetches
ending_of Text = ending.Text
