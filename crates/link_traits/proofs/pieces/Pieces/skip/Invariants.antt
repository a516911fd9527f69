use Rattle.std.proofs.Common.{◌≡◌, ◌≤◌, ◌-◌, drop, length}
use Rattle.link_traits.specs.MemoryLink.{behind, front, skipped}
use Rattle.link_traits.proofs.pieces.Pieces.skip.Given as goal

abbrev pub invariant-loop-self : goal.invariant-loop-self
invariant-loop-self l = record {
  within : l.self-inside.at ≤ length (front (drop l.self-inside.piece l.self-inside.answer));
  same : skipped (behind l.self-inside.at (drop l.self-inside.piece l.self-inside.answer)) ≡ skipped l.fn.self;
}

abbrev pub decreases-loop-self : goal.decreases-loop-self
decreases-loop-self l = length l.self-inside.answer - l.self-inside.piece
