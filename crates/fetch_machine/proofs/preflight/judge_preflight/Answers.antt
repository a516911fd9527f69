use Rattle.std.proofs.Common.{ap}
use Rattle.fetch_definitions.specs.Then.{Context}
use Rattle.fetch_machine.proofs.preflight.judge_preflight.Goals as goal

pub returns-in_ok-op-in-Pass : goal.returns-in_ok-op-in-Pass
returns-in_ok-op-in-Pass c =
    let client = ap (λ (x : Context). x.client) c.context.view_is in
    let time = ap (λ (x : Context). x.now) c.context.view_is in
    rw c.in-Pass.is (rw (c.in_ok-op-in-Pass.ensures, c.deref.ensures, client, time) at c.asking.ensures)
