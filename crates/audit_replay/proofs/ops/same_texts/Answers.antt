use Rattle.std.proofs.Common.{sym, ◌∙◌}
use Rattle.audit_replay.proofs.OpLemmas.{lengths-differ, texts-other, texts-so-far}
use Rattle.audit_replay.proofs.ops.same_texts.Goals as goal

pub returns-then-len : goal.returns-then-len
returns-then-len c =
    lengths-differ c.args.one.now c.args.other.now (λ same. c.if-len.true (c.len.ensures ∙ same ∙ sym c.len-2.ensures))

pub returns-then-ne : goal.returns-then-ne
returns-then-ne c =
    texts-other c.args.one.now c.args.other.now c.loop-index.index c.at.result.now c.at-in-loop-index.result.now
    c.at.ensures c.at-in-loop-index.ensures c.loop-index.invariant c.if-ne.ensures

pub loop-index-preserved : goal.loop-index-preserved
loop-index-preserved c =
    texts-so-far c.args.one.now c.args.other.now c.loop-index.index c.at.result.now c.at-in-loop-index.result.now
    c.at.ensures c.at-in-loop-index.ensures c.loop-index.invariant c.if-ne.ensures
