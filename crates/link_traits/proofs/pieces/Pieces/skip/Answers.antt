use Rattle.std.proofs.Common.{arith, ◌≤◌, length, sym, ◌∙◌}
use Rattle.link_traits.proofs.PieceLemmas.{front-at, skip-given, skip-left}
use Rattle.link_traits.proofs.pieces.Pieces.skip.Goals as goal

pub loop-self-preserved : goal.loop-self-preserved
loop-self-preserved c = record {
  within = omega arith;
  same = skip-given c.loop-self.self-inside.answer c.loop-self.self-inside.piece c.loop-self.self-inside.at
      c.at.result.now c.at.ensures c.if-self-at.true ∙ c.loop-self.invariant.same;
}

pub returns-else-self-at : goal.returns-else-self-at
returns-else-self-at c =
    let within : c.loop-self.self-inside.at ≤ length c.at.result.now =
    rw (front-at c.loop-self.self-inside.answer c.loop-self.self-inside.piece c.at.result.now c.at.ensures) at
    c.loop-self.invariant.within in
    sym (skip-left c.loop-self.self-inside.answer c.loop-self.self-inside.piece c.loop-self.self-inside.at
    c.at.result.now c.at.ensures (omega (arith, within, c.if-self-at.false))) ∙ c.loop-self.invariant.same
