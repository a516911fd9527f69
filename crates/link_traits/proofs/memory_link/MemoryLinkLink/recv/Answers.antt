use Rattle.std.proofs.Common.{arith, refl, length}
use Rattle.link_traits.proofs.PieceLemmas.{concat-end, gave-piece}
use Rattle.link_traits.proofs.memory_link.MemoryLinkLink.recv.Goals as goal

pub returns-clause-gave : goal.returns-clause-gave
returns-clause-gave c = (
  _,
  refl,
  rw (← c.self.view_is, c.give-count.ensures.left)
      (gave-piece c.self.inside.pieces c.give-count.result (length c.args.buf.now) c.give-count.new.buf c.args.buf.now
      c.give-count.ensures.count c.give-count.ensures.given),
)

pub returns-clause-end : goal.returns-clause-end
returns-clause-end c =
    λ none some. rw c.give-count.ensures.left
    (concat-end c.self.inside.pieces c.give-count.result (length c.args.buf.now) c.give-count.ensures.count (cc)
    (omega (arith, some, c.give-count.auto.buf)))
