use Rattle.std.proofs.Common.{Err, ap}
use Rattle.value_lemmas.proofs.Lists.{drop-slice_get}
use Rattle.value_requests.specs.declared.error.NetError.TheVariants.{CspRequest}
use Rattle.fetch_machine.specs.Machine.{next_of}
use Rattle.fetch_definitions.specs.Then.{tell_all}
use Rattle.fetch_machine.proofs.MachineLemmas.{does-same}
use Rattle.fetch_machine.proofs.main_fetch.tell_blocks.Goals as goal

pub returns : goal.returns
returns c =
    let context = c.args.context.now in
    let next = next_of context c.args.level.owed c.args.level.owes in
    does-same context c.going.result _ _
    (ap (λ left. tell_all c.args.level.request.value left (next c.args.level.request.value (Err CspRequest)))
    (drop-slice_get c.args.violations c.args.at c.at.result.now c.at.ensures))
    (rw c.in_ok-violation.ensures at c.going.ensures)
