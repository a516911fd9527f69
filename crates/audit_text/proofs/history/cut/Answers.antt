use Rattle.std.proofs.Common.{sym, ◌∙◌}
use Rattle.audit_text.proofs.LineLemmas.{cut-none, cut-some}
use Rattle.audit_text.proofs.history.cut.Goals as goal

pub returns-in_err-end : goal.returns-in_err-end
returns-in_err-end c =
    rw c.from_residual.ensures (cut-none c.args.text.now (sym c.position_of.ensures ∙ c.in_err-end.was))

pub returns : goal.returns
returns c =
    rw (c.split_at.ensures.front, c.split_at-2.ensures.back)
    (cut-some c.args.text.now c.in_ok-end.end (sym c.position_of.ensures ∙ c.in_ok-end.was))
