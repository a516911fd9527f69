use Rattle.std.proofs.Common.{◌≡◌, None, ap, arith, refl, sym, ◌∙◌}
use Rattle.play_definitions.specs.Worlds.{outside}
use Rattle.script_runs.specs.Runs.{Progress, beginning, fetch_limit, finished, setting}
use Rattle.value_requests.specs.declared.request.Request.{Request}
use Rattle.std.proofs.Common.{List}
use Rattle.fetch_wire.specs.Wires.{over_link}
use Rattle.report_delivery.specs.Delivering.{Delivers}
use Rattle.report_delivery.specs.Private.Queues.{reports_left}
use Rattle.report_delivery.specs.Reporting.{ending_of, reports_played}
use Rattle.report_delivery.specs.Reports.{report_requests}
use Rattle.report_delivery.proofs.DeliveryLemmas.{delivery-cut, delivery-end, delivery-limit, delivery-report}
use Rattle.report_delivery.proofs.DeliveryLemmas.{delivery-start}
use Rattle.report_delivery.proofs.DeliveryLemmas.{delivery-unshown, reached-refused, refused}
use Rattle.report_delivery.proofs.delivery.deliver_reports.Goals as goal

pub loop-log-init : goal.loop-log-init
loop-log-init g c =
    let by = over_link g.L.Link.serves in
    let limit = c.args.scenario.now.body_limit in
    let number = (g.S.Share.account c.args.pass.now).document in
    let lent = setting c.args.client.now c.args.policies.now c.args.scenario.now.cookies in
    let whole = reports_played lent (report_requests c.args.document.now c.args.transcript.now.events) finished
    (beginning c.args.transcript.now.clock) in
    let old = outside g.S.Share.account g.L.Link.told c.args.pass.now c.args.link.now in
    let left : reports_left c.new-queue.result ≡ report_requests c.args.document.now c.args.transcript.now.events =
    c.new-queue.ensures ∙ ap (report_requests c.args.document.now) c.as_slice.ensures in
    record {
      reached = delivery-start by limit number whole old lent finished c.new-log.result
          (reports_left c.new-queue.result)
          (sym (ap (λ (l : List Request). reports_played lent l finished c.new-log.result) left
          ∙ ap (λ (p : Progress). reports_played lent (report_requests c.args.document.now c.args.transcript.now.events)
          finished p) c.new-log.ensures))
          (ap (λ (p : Progress). p.shown) c.new-log.ensures);
      pass = record {
        belongs_to = c.requires.pass.0;
        document = refl;
        opening = refl;
        few = omega arith;
      };
      clock = ap (λ (p : Progress). p.clock) c.new-log.ensures;
      rests = λ end. end;
    }

pub returns-in_err-report-clause-came : goal.returns-in_err-report-clause-came
returns-in_err-report-clause-came g c =
    let by = over_link g.L.Link.serves in
    let limit = c.args.scenario.now.body_limit in
    let number = (g.S.Share.account c.args.pass.now).document in
    let lent = setting c.args.client.now c.args.policies.now c.args.scenario.now.cookies in
    let whole = reports_played lent (report_requests c.args.document.now c.args.transcript.now.events) finished
    (beginning c.args.transcript.now.clock) in
    let old = outside g.S.Share.account g.L.Link.told c.args.pass.now c.args.link.now in
    let now = outside g.S.Share.account g.L.Link.told c.loop-log.pass c.loop-log.link in
    refused (λ r. Delivers by limit number whole old c.args.transcript.now.clock r now) c.from_residual.result
    c.from_residual.ensures.0 (λ one. reached-refused by limit number whole old c.loop-log.log.shown
    (reports_played lent (reports_left c.loop-log.queue) finished c.loop-log.log) now now c.loop-log.invariant.reached
    refl)

pub returns-in-Some-limit-clause-came : goal.returns-in-Some-limit-clause-came
returns-in-Some-limit-clause-came g c =
    let by = over_link g.L.Link.serves in
    let limit = c.args.scenario.now.body_limit in
    let number = (g.S.Share.account c.args.pass.now).document in
    let lent = setting c.args.client.now c.args.policies.now c.args.scenario.now.cookies in
    let whole = reports_played lent (report_requests c.args.document.now c.args.transcript.now.events) finished
    (beginning c.args.transcript.now.clock) in
    let old = outside g.S.Share.account g.L.Link.told c.args.pass.now c.args.link.now in
    let now = outside g.S.Share.account g.L.Link.told c.loop-log.pass c.loop-log.link in
    let taken = rw c.in-Some.is at c.in_ok-report.ensures.taken in
    delivery-limit by limit number whole old lent finished c.loop-log.log (reports_left c.loop-log.queue)
    (reports_left c.next.new.self) c.in-Some.report (ending_of c.in-Some-limit.ending) c.into_events.result
    c.args.transcript.now.clock now c.loop-log.invariant.reached taken c.in-Some-limit.ensures.limit
    c.into_events.ensures c.loop-log.invariant.clock

pub returns-in_err-run-clause-came : goal.returns-in_err-run-clause-came
returns-in_err-run-clause-came g c =
    let by = over_link g.L.Link.serves in
    let limit = c.args.scenario.now.body_limit in
    let number = (g.S.Share.account c.args.pass.now).document in
    let lent = setting c.args.client.now c.args.policies.now c.args.scenario.now.cookies in
    let whole = reports_played lent (report_requests c.args.document.now c.args.transcript.now.events) finished
    (beginning c.args.transcript.now.clock) in
    let old = outside g.S.Share.account g.L.Link.told c.args.pass.now c.args.link.now in
    let now = outside g.S.Share.account g.L.Link.told c.loop-log.pass c.loop-log.link in
    let new = outside g.S.Share.account g.L.Link.told c.drive_fetch.new.pass c.drive_fetch.new.link in
    let taken = rw c.in-Some.is at c.in_ok-report.ensures.taken in
    let none : None ≡ fetch_limit c.loop-log.log = c.in_default-limit.ensures.limit in
    refused (λ r. Delivers by limit number whole old c.args.transcript.now.clock r new)
    c.from_residual-in_err-run.result
    c.from_residual-in_err-run.ensures.0 (λ one. delivery-cut by limit number whole old lent finished c.loop-log.log
    (reports_left c.loop-log.queue) (reports_left c.next.new.self) c.in-Some.report
    (g.S.Share.account c.loop-log.pass).document c.args.transcript.now.clock now new c.loop-log.invariant.reached taken
    none c.loop-log.invariant.pass.document c.loop-log.invariant.clock c.in_err-run.ensures.came)

pub loop-log-preserved : goal.loop-log-preserved
loop-log-preserved g c =
    let by = over_link g.L.Link.serves in
    let limit = c.args.scenario.now.body_limit in
    let number = (g.S.Share.account c.args.pass.now).document in
    let lent = setting c.args.client.now c.args.policies.now c.args.scenario.now.cookies in
    let whole = reports_played lent (report_requests c.args.document.now c.args.transcript.now.events) finished
    (beginning c.args.transcript.now.clock) in
    let old = outside g.S.Share.account g.L.Link.told c.args.pass.now c.args.link.now in
    let now = outside g.S.Share.account g.L.Link.told c.loop-log.pass c.loop-log.link in
    let new = outside g.S.Share.account g.L.Link.told c.drive_fetch.new.pass c.drive_fetch.new.link in
    let taken = rw c.in-Some.is at c.in_ok-report.ensures.taken in
    let none : None ≡ fetch_limit c.loop-log.log = c.in_default-limit.ensures.limit in
    let added = c.in_ok-add_report.ensures in
    record {
      reached = delivery-report by limit number whole old lent finished c.loop-log.log c.add_report.new.self
          (reports_left c.loop-log.queue) (reports_left c.next.new.self) c.in-Some.report
          (g.S.Share.account c.loop-log.pass).document c.args.transcript.now.clock c.in_ok-run.run'.events
          c.in_ok-run.run'.outcome now new c.loop-log.invariant.reached taken none c.loop-log.invariant.pass.document
          c.loop-log.invariant.clock c.in_ok-run.ensures.came added;
      pass = record {
        belongs_to = c.in_ok-run.ensures.pass.belongs_to;
        document = c.in_ok-run.ensures.pass.document ∙ c.loop-log.invariant.pass.document;
        opening = c.in_ok-run.ensures.pass.opening ∙ c.loop-log.invariant.pass.opening;
        few = omega (
          arith,
          ap (λ (p : Progress). p.fetches) added,
          c.in_ok-run.ensures.pass.few,
          c.loop-log.invariant.pass.few,
        );
      };
      clock = ap (λ (p : Progress). p.clock) added ∙ c.loop-log.invariant.clock;
      rests = λ end. c.in_ok-run.ensures.hung_up;
    }

pub returns-in_err-add_report-clause-came : goal.returns-in_err-add_report-clause-came
returns-in_err-add_report-clause-came g c =
    let by = over_link g.L.Link.serves in
    let limit = c.args.scenario.now.body_limit in
    let number = (g.S.Share.account c.args.pass.now).document in
    let lent = setting c.args.client.now c.args.policies.now c.args.scenario.now.cookies in
    let whole = reports_played lent (report_requests c.args.document.now c.args.transcript.now.events) finished
    (beginning c.args.transcript.now.clock) in
    let old = outside g.S.Share.account g.L.Link.told c.args.pass.now c.args.link.now in
    let now = outside g.S.Share.account g.L.Link.told c.loop-log.pass c.loop-log.link in
    let new = outside g.S.Share.account g.L.Link.told c.drive_fetch.new.pass c.drive_fetch.new.link in
    let taken = rw c.in-Some.is at c.in_ok-report.ensures.taken in
    let none : None ≡ fetch_limit c.loop-log.log = c.in_default-limit.ensures.limit in
    refused (λ r. Delivers by limit number whole old c.args.transcript.now.clock r new)
    c.from_residual-in_err-add_report.result c.from_residual-in_err-add_report.ensures.0
    (λ one. delivery-unshown by limit number whole old lent finished c.loop-log.log (reports_left c.loop-log.queue)
    (reports_left c.next.new.self) c.in-Some.report (g.S.Share.account c.loop-log.pass).document
    c.args.transcript.now.clock c.in_ok-run.run'.events c.in_ok-run.run'.outcome now new c.loop-log.invariant.reached
    taken none c.loop-log.invariant.pass.document c.loop-log.invariant.clock c.in_ok-run.ensures.came)

pub returns-clause-came : goal.returns-clause-came
returns-clause-came g c =
    let by = over_link g.L.Link.serves in
    let limit = c.args.scenario.now.body_limit in
    let number = (g.S.Share.account c.args.pass.now).document in
    let lent = setting c.args.client.now c.args.policies.now c.args.scenario.now.cookies in
    let whole = reports_played lent (report_requests c.args.document.now c.args.transcript.now.events) finished
    (beginning c.args.transcript.now.clock) in
    let old = outside g.S.Share.account g.L.Link.told c.args.pass.now c.args.link.now in
    let now = outside g.S.Share.account g.L.Link.told c.loop-log.pass c.loop-log.link in
    let none = rw c.in_default.is at c.in_ok-report.ensures.taken in
    delivery-end by limit number whole old lent c.loop-log.log (reports_left c.loop-log.queue) c.into_events-2.result
    c.args.transcript.now.clock now c.loop-log.invariant.reached none c.into_events-2.ensures
    c.loop-log.invariant.clock
