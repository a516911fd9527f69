use Rattle.std.proofs.Common.{ap}
use Rattle.value_lemmas.proofs.Lists.{drop-slice_get}
use Rattle.fetch_definitions.specs.Fetch.{ends}
use Rattle.fetch_definitions.specs.Then.{tell_all}
use Rattle.fetch_machine.proofs.MachineLemmas.{does-same}
use Rattle.fetch_machine.proofs.steps.tell_at_end.Goals as goal

pub returns : goal.returns
returns c =
    let context = c.args.context.now in
    does-same context c.going.result _ _
    (ap (λ left. tell_all c.args.level.request.value left (ends c.args.level.request.value c.args.ended))
    (drop-slice_get c.args.violations c.args.at c.at.result.now c.at.ensures))
    (rw (c.in_ok-kept.ensures, c.in_ok-violation.ensures) at c.going.ensures)
