use Rattle.std.proofs.Common.{◌∙◌, List, [], ◌∷◌, ◌++◌, ap, append_assoc, sym}
use Rattle.std.proofs.lemmas.List.Elements.{All-push}
use Rattle.report_delivery.specs.Private.Queues.{reports_left}
use Rattle.value_requests.specs.declared.request.Request.{Request}
use Rattle.value_requests.specs.Requests.{IsRequest}
use Rattle.report_delivery.proofs.requests.reports_of.Goals as goal

pub loop-reports-preserved : goal.loop-reports-preserved
loop-reports-preserved c =
    let reports = c.loop-reports.reports in
    let report = c.in-Some.report in
    let is = c.loop-reports.invariant in
    record {
      made = rw c.in_ok-push.ensures.ok (is.made
          ∙ ap (λ (l : List Request). reports ++ l) (rw c.in-Some.is at c.in_ok-report.ensures.taken)
          ∙ sym (append_assoc reports (report ∷ []) (reports_left c.next.new.self)));
      valid = rw c.in_ok-push.ensures.ok (All-push IsRequest reports report is.valid
          (rw c.in-Some.is at c.in_ok-report.ensures.valid));
    }
