use Rattle.std.proofs.Common.{◌∙◌, ap, length, List, ◌==◌}
use Rattle.book_calls.specs.declared.op.Op.{Op}
use Rattle.audit_replay.proofs.TapeLemmas.{empty-by}
use Rattle.audit_replay.proofs.tape.TapePass.is_on_tape.Goals as goal

pub returns-clause-on : goal.returns-clause-on
returns-clause-on c =
    rw (← c.self.view_is)
    (empty-by c.self.inside.strays.items c.is_empty.result
    (c.is_empty.ensures ∙ ap (λ (ops : List Op). length ops == 0) c.as_slice.ensures.value))
