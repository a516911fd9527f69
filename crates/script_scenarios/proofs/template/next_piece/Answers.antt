use Rattle.std.proofs.Common.{arith, sym, ◌∙◌}
use Rattle.script_scenarios.proofs.PieceLemmas.{onto-none, piece-ends, piece-goes-on, piece-is-last}
use Rattle.script_scenarios.proofs.template.next_piece.Goals as goal

pub loop-i-init : goal.loop-i-init
loop-i-init c = (sym (onto-none c.args.text.now), omega arith)

pub returns-then-opens-clause-pieces : goal.returns-then-opens-clause-pieces
returns-then-opens-clause-pieces c =
    piece-ends c.args.text.now c.loop-i.i c.split_at.result.0.now c.split_at-then-opens.result.1.now c.loop-i-test.true
    (sym c.opens.ensures ∙ c.if-opens.true) c.loop-i.invariant.0 c.split_at.ensures.front
    c.split_at-then-opens.ensures.back

pub loop-i-preserved : goal.loop-i-preserved
loop-i-preserved c = (
  piece-goes-on c.args.text.now c.loop-i.i c.loop-i-test.true (sym c.opens.ensures ∙ c.if-opens.false)
      c.loop-i.invariant.0,
  omega (arith, c.loop-i-test.true),
)

pub returns-clause-pieces : goal.returns-clause-pieces
returns-clause-pieces c = piece-is-last c.args.text.now c.loop-i.i c.loop-i-test.false c.loop-i.invariant.0
