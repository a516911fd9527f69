use Rattle.std.proofs.Common.{◌∙◌}
use Rattle.value_origins.proofs.LabelLemmas.{last_two_labels-cut}
use Rattle.value_origins.proofs.names.last_two_labels.Goals as goal

pub returns-in-Some-cut_at_last_dot : goal.returns-in-Some-cut_at_last_dot
returns-in-Some-cut_at_last_dot c =
    c.split_at.ensures.back ∙ last_two_labels-cut c.args.name.now c.in-Some.front.now c.in-Some.field-0-1.now
    c.in-Some-cut_at_last_dot.before.now c.in-Some-cut_at_last_dot.field-0-1.now c.in-Some.ensures
    c.in-Some-cut_at_last_dot.ensures
