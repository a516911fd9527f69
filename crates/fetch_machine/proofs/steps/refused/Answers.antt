use Rattle.std.proofs.Common.{ap}
use Rattle.fetch_definitions.specs.Then.{Context}
use Rattle.fetch_machine.proofs.MachineLemmas.{leads-same}
use Rattle.fetch_machine.proofs.steps.refused.Goals as goal

pub returns : goal.returns
returns c =
    let context = c.args.context.now in
    let client = ap (λ (x : Context). x.client) c.context.view_is in
    let time = ap (λ (x : Context). x.now) c.context.view_is in
    leads-same context c.asking.result _ _
    (c.one_less.ensures.clears context c.args.level.request.value c.args.error)
    (rw (c.in_ok-op.ensures, c.deref.ensures, client, time) at c.asking.ensures)
