use Rattle.std.proofs.Common.{List, ℕ, arith, ap, length, length-append}
use Rattle.link_traits.proofs.AskLemmas.{bytes_of-append, keep-asks}
use Rattle.link_traits.proofs.kept_asks.KeptAsks.keep.Goals as goal

pub invariant_of-self : goal.invariant_of-self
invariant_of-self c = (
  omega (
    arith,
    c.self.invariant.0,
    c.in-Ok-Ok-Ok.ensures.len,
    c.in-Ok-Ok-Ok.ensures.capacity,
    c.in-Ok-Ok-Ok.ensures'.len,
    c.in-Ok-Ok-Ok.ensures'.capacity,
    c.if-self-needed.false,
  ),
  omega (
    arith,
    c.self.invariant.1,
    c.in-Ok-Ok-Ok.ensures''.len,
    c.in-Ok-Ok-Ok.ensures''.capacity,
    c.if-self-needed.false,
  ),
  rw (
    c.in-Ok-Ok-Ok.ensures''.items,
    bytes_of-append c.self.inside.sizes.items
        (record { origin = length c.args.origin.now; request = length c.args.request.now; received = 0 }),
  )
      (omega (
        arith,
        c.self.invariant.2,
        ap (λ (l : List ℕ). length l) c.in-Ok-Ok-Ok.ensures'.items,
        ap (λ (l : List ℕ). length l) c.in-Ok-Ok-Ok.ensures.items,
        length-append c.extend_from_slice.new.self.items c.args.request.now,
        length-append c.self.inside.text.items c.args.origin.now,
      )),
)

pub returns-clause-asks : goal.returns-clause-asks
returns-clause-asks c =
    rw (c.in-Ok-Ok-Ok.ensures''.items, c.in-Ok-Ok-Ok.ensures'.items, c.in-Ok-Ok-Ok.ensures.items)
    (keep-asks c.self.inside.sizes.items c.self.inside.text.items c.args.origin.now c.args.request.now
    c.args.self.now.asks c.args.self.now.room c.self.invariant.2 (ap (λ k. k.asks) c.self.view_is)
    (omega (arith, c.if-self-needed.false, ap (λ k. k.room) c.self.view_is)))
