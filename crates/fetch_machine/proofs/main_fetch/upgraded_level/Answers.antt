use Rattle.fetch_machine.proofs.MachineLemmas.{upgraded-redirects}
use Rattle.fetch_machine.proofs.main_fetch.upgraded_level.Goals as goal

pub invariant_of-level : goal.invariant_of-level
invariant_of-level c =
    let lent = c.context.inside in
    record {
      valid = c.in_ok-upgrade_request.ensures.valid;
      few = rw (
        c.in_ok-upgrade_request.ensures.value,
        c.deref_mut.ensures.value,
        upgraded-redirects lent.client.now lent.policies.now c.args.level.request.value,
      ) c.args.level.few;
    }
