-- The first pass and the others are all passes of the book.
use Rattle.std.proofs.Common.{◌≡◌, ◌≢◌, ℕ, ◌<◌, cond, eqb, List, ◌∷◌, ap, arith, eq-eqb}
use Rattle.std.specs.List.{count_by}
use Rattle.std.proofs.lemmas.List.Sums.{sum_by-cons}
use Rattle.std.proofs.lemmas.List.Elements.{All-cons, All-weaker}
use Rattle.book_turns.specs.Counts.{times}
use Rattle.book_turns.specs.Laws.{AreAllPasses}
use Rattle.book_turns.specs.Passes.{is_of, made_of}
use Rattle.book_turns.specs.Private.Sums.{one}
use Rattle.book_turns.specs.declared.pass.TurnPass.{TurnPass}

more-of : (d : ℕ) (p : TurnPass) (ps : List TurnPass) → 0 < count_by (is_of d) ps → 0 < count_by (is_of d) (p ∷ ps)
more-of d p ps h = omega (arith, sum_by-cons (λ (q : TurnPass). cond (is_of d q) 1 0) p ps)

pub whole_of : AreAllPasses
whole_of t first ps mine is-first others whole =
    let Others : TurnPass → Type 0 = λ p. (p.seat.table_id ≡ t) × (p.document ≢ 4294967295) in
    let Belongs : TurnPass → Type 0 = λ p. p.seat.table_id ≡ t in
    let Whole : TurnPass → Type 0 = λ p. p.document ≡ 4294967295 → (d : ℕ) → 0 < times d (made_of p)
    → 0 < count_by (is_of d) (first ∷ ps) in
    record {
      belong = All-cons Belongs first ps mine (All-weaker Others Belongs (λ p o. o.0) ps others);
      first = let z : one (eqb first.document 4294967295) ≡ 1 = ap one (eq-eqb first.document 4294967295 is-first) in
          omega (arith, sum_by-cons (λ (q : TurnPass). cond (is_of 4294967295 q) 1 0) first ps);
      whole = All-cons Whole first ps (λ _ d h. more-of d first ps (whole d h))
          (All-weaker Others Whole (λ p o e d h. absurd (o.1 e)) ps others);
    }
