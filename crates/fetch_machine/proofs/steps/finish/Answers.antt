use Rattle.std.proofs.Common.{◌∙◌, ap}
use Rattle.fetch_definitions.specs.Then.{Context}
use Rattle.fetch_machine.proofs.MachineLemmas.{finished-as, leads-same, next_of-head}
use Rattle.fetch_machine.proofs.steps.finish.Goals as goal

pub returns : goal.returns
returns c =
    let context = c.args.context.now in
    let client = ap (λ (x : Context). x.client) c.context.view_is in
    let policies = ap (λ (x : Context). x.policies) c.context.view_is in
    leads-same context c.tell_at_end.result _ _
    (next_of-head context c.args.level.owed c.args.level.owes c.args.level.request.value c.args.head
    ∙ finished-as context c.args.level.request.value c.args.head c.in_ok-violations.violations
    c.in_ok-violations.blocked
    c.in_ok-end.end (rw (c.deref.ensures, client, policies) at c.in_ok-violations.ensures.0)
    c.in_ok-violations.ensures.1 (rw c.deref-2.ensures at c.in_ok-end.ensures))
    c.tell_at_end.ensures
