use Rattle.std.proofs.Common.{◌≡◌, ◌∙◌, false, sym, true}
use Rattle.audit_replay.proofs.LegalityLemmas.{illegal-here, judged-more}
use Rattle.audit_replay.proofs.legality.first_illegal.Goals as goal

pub loop-entry-preserved : goal.loop-entry-preserved
loop-entry-preserved c =
    let same = c.is_right.ensures.0 c.if-not-is_right.false in
    judged-more c.args.book c.args.history.now c.loop-entry.entry-index c.loop-entry.book c.apply.new.self
    c.loop-entry.turn c.entry-item.result c.in_ok-reply.reply c.loop-entry.invariant c.loop-entry-test.true
    c.entry-item.is (rw c.get.ensures at c.in_ok-reply.ensures.ok) (rw c.get.ensures at c.in_ok-reply.ensures.reply)
    same.0 same.1

pub returns-then-not-is_right : goal.returns-then-not-is_right
returns-then-not-is_right c =
    illegal-here c.args.book c.args.history.now c.loop-entry.entry-index c.loop-entry.book c.loop-entry.turn
    c.entry-item.result c.in_ok-reply.reply c.loop-entry.invariant c.loop-entry-test.true c.entry-item.is
    (rw c.get.ensures at c.in_ok-reply.ensures.reply)
    (λ turn said. let both : true ≡ false = sym (c.is_right.ensures.1 (turn, said)) ∙ c.if-not-is_right.true in cc)
