use Rattle.std.proofs.Common.{◌∙◌, sym}
use Rattle.audit_text.proofs.FrameLemmas.{frame-is, no-number, too-short}
use Rattle.audit_text.proofs.frame.framed.Goals as goal

pub returns-in_err-length : goal.returns-in_err-length
returns-in_err-length c =
    rw c.from_residual-in_err-length.ensures
    (no-number c.args.input.now c.in_ok-number.number.now c.in_ok-number.rest.now c.in_ok-number.ensures
    (sym c.number_up_to.ensures.value ∙ c.in_err-length.was))

pub returns-then-rest-length : goal.returns-then-rest-length
returns-then-rest-length c =
    too-short c.args.input.now c.in_ok-number.number.now c.in_ok-number.rest.now c.in_ok-length.length
    c.in_ok-number.ensures (sym c.number_up_to.ensures.value ∙ c.in_ok-length.was) c.if-rest-length.true

pub returns : goal.returns
returns c =
    rw (c.split_at.ensures.front, c.split_at.ensures.back)
    (frame-is c.args.input.now c.in_ok-number.number.now c.in_ok-number.rest.now c.in_ok-length.length
    c.in_ok-number.ensures (sym c.number_up_to.ensures.value ∙ c.in_ok-length.was) c.if-rest-length.false)
