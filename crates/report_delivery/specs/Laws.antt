-- What the reports of a document rest on.
use Rattle.std.specs.Prelude.{◌≡◌, List}
use Rattle.script_events.specs.declared.events.Event.{Event}
use Rattle.script_scenarios.specs.declared.document.Document.{Document}
use Rattle.report_delivery.specs.Reports.{report_requests, violations_told}

-- where two runs of the document were told the same violations, their reports are the same, whatever else they showed
abbrev pub RestOnViolations : Document → List Event → List Event → Type 0
RestOnViolations document one other =
    violations_told one ≡ violations_told other → report_requests document one ≡ report_requests document other
