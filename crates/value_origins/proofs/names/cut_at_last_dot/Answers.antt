use Rattle.std.proofs.Common.{rules}
use Rattle.value_origins.proofs.LabelLemmas.{cut-at_last_dot, labels-none}
use Rattle.value_origins.proofs.names.cut_at_last_dot.Goals as goal

pub returns-in_err-dot : goal.returns-in_err-dot
returns-in_err-dot c = rw c.from_residual.ensures (labels-none c.args.name.now (search rules))

pub returns : goal.returns
returns c =
    rw (c.split_at.ensures.front, c.split_at-2.ensures.back)
    (cut-at_last_dot c.args.name.now c.in_ok-dot.dot (search rules) (search rules) (search rules))
