use Rattle.std.proofs.Common.{◌≤◌, ◌++◌, ℕ, List, ap, arith, drop, length, ◌∙◌}
use Rattle.std.proofs.lemmas.List.{length-drop}
use Rattle.link_traits.specs.MemoryLink.{skipped}
use Rattle.link_traits.proofs.PieceLemmas.{front-at, front-left}
use Rattle.link_traits.proofs.pieces.Pieces.give.Goals as goal

pub split_at-requires : goal.split_at-requires
split_at-requires c = rw (front-at c.self.inside.answer c.self.inside.piece c.at.result.now c.at.ensures) at
    c.self.invariant

pub invariant_of-self : goal.invariant_of-self
invariant_of-self c =
    let before : c.self.inside.at ≤ length c.at.result.now =
    rw (front-at c.self.inside.answer c.self.inside.piece c.at.result.now c.at.ensures) at c.self.invariant in
    rw (front-at c.self.inside.answer c.self.inside.piece c.at.result.now c.at.ensures)
    (omega (
      arith,
      c.min-count.ensures,
      ap length c.split_at.ensures.back,
      length-drop c.self.inside.at c.at.result.now,
      before,
    ))

pub returns-clause-count : goal.returns-clause-count
returns-clause-count c =
    rw (
      front-left c.self.inside.answer (skipped c.args.self.now) c.self.inside.piece c.self.inside.at c.at.result.now
          c.at.ensures (c.self.view_is ∙ c.skip.ensures),
      ← c.split_at.ensures.back,
    ) c.min-count.ensures

pub returns-clause-given : goal.returns-clause-given
returns-clause-given c =
    rw (
      front-left c.self.inside.answer (skipped c.args.self.now) c.self.inside.piece c.self.inside.at c.at.result.now
          c.at.ensures (c.self.view_is ∙ c.skip.ensures),
      ← c.split_at.ensures.back,
    )
    (ap (λ (l : List ℕ). l ++ drop c.min-count.result c.args.buf.now) c.copy_from_slice.ensures.after)
