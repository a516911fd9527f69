use Rattle.std.proofs.Common.{◌∙◌, ap, sym}
use Rattle.fetch_definitions.specs.Fetch.{onward_of}
use Rattle.fetch_machine.specs.Machine.{next_of}
use Rattle.fetch_definitions.specs.MainFetch.{unless_violated}
use Rattle.fetch_definitions.specs.Then.{Context}
use Rattle.fetch_machine.proofs.MachineLemmas.{leads-same, violated-blocks}
use Rattle.fetch_machine.proofs.main_fetch.check_policies.Goals as goal

pub returns-else-is_empty : goal.returns-else-is_empty
returns-else-is_empty c =
    let context = c.args.context.now in
    let client = ap (λ (x : Context). x.client) c.context.view_is in
    let policies = ap (λ (x : Context). x.policies) c.context.view_is in
    let next = next_of context c.args.level.owed c.args.level.owes in
    let onward = onward_of context c.args.level.request.value in
    leads-same context c.tell_blocks.result _ _
    (ap (unless_violated onward context next c.args.level.request.value)
    (sym (rw (c.deref.ensures, client, policies) at c.in_ok-violations.ensures))
    ∙ violated-blocks onward context next c.args.level.request.value c.in_ok-violations.violations
    (sym c.is_empty.ensures ∙ c.if-is_empty.false))
    c.tell_blocks.ensures
