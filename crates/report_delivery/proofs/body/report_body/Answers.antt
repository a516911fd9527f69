use Rattle.serde_json.specs.View.{view}
use Rattle.std.proofs.Common.{◌≡◌}
use Rattle.std.specs.Prelude.{string_bytes}
use Rattle.report_delivery.specs.Reports.{report_body as body}
use Rattle.report_delivery.proofs.BodyLemmas.{body-text}
use Rattle.report_delivery.proofs.body.report_body.Goals as goal

pub returns : goal.returns
returns c =
    let text : string_bytes c.in_ok-text.text ≡ body c.args.url.now c.args.violation.now =
    body-text c.args.url.now c.args.violation.now (view c.in_ok-report.report) (string_bytes c.in_ok-text.text)
    c.in_ok-report.ensures c.in_ok-text.ensures.text in
    cc
