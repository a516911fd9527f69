use Rattle.std.proofs.Common.{ap, ◌∙◌}
use Rattle.policy_filter.specs.Private.Collecting.{with_new}
use Rattle.policy_filter.proofs.CollectingLemmas.{collected-step}
use Rattle.policy_filter.proofs.exposed.header_names.Goals as goal

pub loop-header-preserved : goal.loop-header-preserved
loop-header-preserved c =
    collected-step _ _ _ _ _ _ c.loop-header-test.true c.header-item.is
    (c.in_ok-add_name.ensures ∙ ap (λ name. with_new name c.loop-header.names) c.name.ensures)
    c.loop-header.invariant
