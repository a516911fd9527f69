use Rattle.std.proofs.Common.{◌∙◌, ap, position, sym, ◌==◌}
use Rattle.book_calls.specs.declared.entry.Entry.{Entry}
use Rattle.audit_replay.proofs.TapeLemmas.{next-none, next-some}
use Rattle.audit_replay.proofs.tape.TapePass.next.Goals as goal

pub returns-in_err-index : goal.returns-in_err-index
returns-in_err-index c =
    rw (← c.self.view_is, c.from_residual.ensures)
    (next-none c.self.inside.document _
    (ap (position (λ (e : Entry). e.document == c.self.inside.document)) (sym c.split_at.ensures.back)
    ∙ sym c.next_of.ensures ∙ c.in_err-index.was))

pub returns : goal.returns
returns c =
    rw (← c.self.view_is)
    (next-some _ c.in_ok-index.index
    (ap (position (λ (e : Entry). e.document == c.self.inside.document)) (sym c.split_at.ensures.back)
    ∙ sym c.next_of.ensures ∙ c.in_ok-index.was))
