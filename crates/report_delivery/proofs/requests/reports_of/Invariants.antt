use Rattle.std.proofs.Common.{◌≡◌, ◌++◌, length}
use Rattle.std.specs.List.{All}
use Rattle.report_delivery.specs.Private.Queues.{reports_left}
use Rattle.report_delivery.specs.Reports.{report_requests}
use Rattle.value_requests.specs.Requests.{IsRequest}
use Rattle.report_delivery.proofs.requests.reports_of.Given as goal

-- the reports so far, which are valid, and those that are left
abbrev pub invariant-loop-reports : goal.invariant-loop-reports
invariant-loop-reports l = record {
  made : report_requests l.document l.events ≡ l.reports ++ reports_left l.queue;
  valid : All IsRequest l.reports;
}

abbrev pub decreases-loop-reports : goal.decreases-loop-reports
decreases-loop-reports l = length (reports_left l.queue)
