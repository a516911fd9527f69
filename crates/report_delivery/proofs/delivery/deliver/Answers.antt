use Rattle.std.proofs.Common.{◌≡◌, ◌∙◌, [], refl, subst}
use Rattle.play_definitions.specs.Worlds.{outside}
use Rattle.script_runs.specs.Play.{Play}
use Rattle.fetch_wire.specs.Wires.{over_link}
use Rattle.report_delivery.specs.Delivering.{Delivers}
use Rattle.report_delivery.specs.Reporting.{reporting}
use Rattle.report_delivery.proofs.DeliveryLemmas.{reached-none, reached-refused, refused, reporting-of}
use Rattle.report_delivery.proofs.delivery.deliver.Goals as goal

pub returns-in_err-client-clause-came : goal.returns-in_err-client-clause-came
returns-in_err-client-clause-came g c = λ one is.
    let by = over_link g.L.Link.serves in
    let limit = c.args.scenario.now.body_limit in
    let number = (g.S.Share.account c.args.pass.now).document in
    let whole = reporting c.args.scenario.now.cookies one c.args.transcript.now.clock c.args.transcript.now.events in
    let old = outside g.S.Share.account g.L.Link.told c.args.pass.now c.args.link.now in
    refused (λ r. Delivers by limit number whole old c.args.transcript.now.clock r old) c.from_residual.result
    c.from_residual.ensures.0
    (λ one. reached-refused by limit number whole old [] whole old old (reached-none by limit number whole old) refl)

pub returns-in_err-policies-clause-came : goal.returns-in_err-policies-clause-came
returns-in_err-policies-clause-came g c = λ one is.
    let by = over_link g.L.Link.serves in
    let limit = c.args.scenario.now.body_limit in
    let number = (g.S.Share.account c.args.pass.now).document in
    let whole = reporting c.args.scenario.now.cookies one c.args.transcript.now.clock c.args.transcript.now.events in
    let old = outside g.S.Share.account g.L.Link.told c.args.pass.now c.args.link.now in
    refused (λ r. Delivers by limit number whole old c.args.transcript.now.clock r old)
    c.from_residual-in_err-policies.result c.from_residual-in_err-policies.ensures.0
    (λ one. reached-refused by limit number whole old [] whole old old (reached-none by limit number whole old) refl)

pub returns-clause-came : goal.returns-clause-came
returns-clause-came g c = λ one is.
    let by = over_link g.L.Link.serves in
    let limit = c.args.scenario.now.body_limit in
    let number = (g.S.Share.account c.args.pass.now).document in
    let old = outside g.S.Share.account g.L.Link.told c.args.pass.now c.args.link.now in
    let new = outside g.S.Share.account g.L.Link.told c.deliver_reports.new.pass c.deliver_reports.new.link in
    let same : c.at-document.result.now ≡ one = cc (c.at-document.ensures, is) in
    subst (λ (p : Play). Delivers by limit number p old c.args.transcript.now.clock c.deliver_reports.result new)
    (reporting-of c.at-document.result.now one c.in_ok-client.client c.in_ok-policies.policies
    c.args.scenario.now.cookies c.args.transcript.now.clock c.args.transcript.now.events same
    c.in_ok-client.ensures.value (c.in_ok-policies.ensures ∙ c.new.ensures)) c.deliver_reports.ensures.came
