-- Passes and links, one after another.
use Rattle.std.proofs.Common.{◌≡◌, ℕ, zero, suc, ◌+◌, ◌<◌, ◌≤◌, List, [], ◌∷◌, ◌++◌, length, Option, Some, Bool, cond}
use Rattle.std.proofs.Common.{refl, ap, subst, ◌∙◌, arith, ◌⊎◌, inl, inr}
use Rattle.std.specs.Prelude.{◌==◌, slice_get}
use Rattle.std.specs.List.{range_with_len}
use Rattle.std.proofs.lemmas.Bool.Decides.{eqb_tells}
use Rattle.std.proofs.lemmas.List.Sums.{sum_by-cons, sum_by_push}
use Rattle.link_traits.specs.Links.{IsForetold}
use Rattle.book_turns.specs.Counts.{times}
use Rattle.play_seats.specs.Links.{AreOpened}

-- a number more
pub range-more : (from count end : ℕ) → from + count ≡ end
    → range_with_len from (count + 1) ≡ range_with_len from count ++ end ∷ []
range-more from count end is = ap (range_with_len from) (one-more count) ∙ last from count end is
  where
    one-more : (n : ℕ) → n + 1 ≡ suc n
    one-more n = omega arith

    last : (a n e : ℕ) → a + n ≡ e → range_with_len a (suc n) ≡ range_with_len a n ++ e ∷ []
    last a zero e is = let same : a ≡ e = omega (arith, is) in ap (λ (k : ℕ). k ∷ []) same
    last a (suc n) e is = ap (λ (l : List ℕ). a ∷ l) (last (a + 1) n e (omega (arith, is)))

-- what a number adds to how often d is in a list
abbrev adds : ℕ → ℕ → ℕ
adds d x = cond (x == d) 1 0

-- a number that is among those from one on is not below it, and below the end
pub times-range : (d from count : ℕ) → 0 < times d (range_with_len from count) → (from ≤ d) × (d < from + count)
times-range d from zero some = absurd (omega (arith, some))
times-range d from (suc count) some = elim (eqb_tells from d) [
  | inl same ↦ (omega (arith, same.1), omega (arith, same.1))
  | inr apart ↦
      let later : 0 < times d (range_with_len (from + 1) count) =
      omega (
        arith,
        some,
        sum_by-cons (adds d) from (range_with_len (from + 1) count),
        ap {B = ℕ} (λ (b : Bool). cond b 1 0) apart.0,
      ) in
      let rest = times-range d (from + 1) count later in (omega (arith, rest.0), omega (arith, rest.1))
]

-- the next document has no pass yet
pub fresh : (count : ℕ) (made : List ℕ) → ((d : ℕ) → times d made ≡ times d (range_with_len 0 count))
    → times count made ≡ 0
fresh count made is = none (times count made) (λ some. omega (
  arith,
  (times-range count 0 count
      (omega (arith, some, is count))).1,
))
  where
    none : (n : ℕ) → (0 < n → ⊥) → n ≡ 0
    none zero not_some = refl
    none (suc n) not_some = absurd (not_some (omega arith))

-- and has one then
pub made-more : (count : ℕ) (made made' : List ℕ) → ((d : ℕ) → times d made ≡ times d (range_with_len 0 count))
    → made' ≡ count ∷ made → (d : ℕ) → times d made' ≡ times d (range_with_len 0 (count + 1))
made-more count made made' is more d =
    omega (
      arith,
      is d,
      ap (times d) more,
      sum_by-cons (adds d) count made,
      sum_by_push (adds d) (range_with_len 0 count) count,
      ap (times d) (range-more 0 count count (zero_before count)),
    )
  where
    zero_before : (n : ℕ) → 0 + n ≡ n
    zero_before n = omega arith

-- a link more, where the next one was to be made
pub opened-more : {L : Type 0} (first later : ℕ → Option L) (links : List L) (link : L)
    → AreOpened first links → ((k : ℕ) → later k ≡ first (k + length links)) → IsForetold (later 0) link
    → AreOpened first (links ++ link ∷ [])
opened-more {L} first later links link opened shifted told k other at = elim (place links k at) [
  | inl inside ↦ opened k other inside
  | inr last ↦
      subst (λ (o : Option L). IsForetold o other) (shifted 0 ∙ ap first (zero_before (length links) ∙ last.0))
      (subst (λ (l : L). IsForetold (later 0) l) last.1 told)
]
  where
    zero_before : (n : ℕ) → 0 + n ≡ n
    zero_before n = omega arith

    place : (ls : List L) (i : ℕ) → slice_get (ls ++ link ∷ []) i ≡ Some other
        → (slice_get ls i ≡ Some other) ⊎ ((length ls ≡ i) × (link ≡ other))
    place [] zero found = inr (refl, cc)
    place [] (suc i) found = cc
    place (x ∷ xs) zero found = inl found
    place (x ∷ xs) (suc i) found = elim (place xs i found) [
      | inl inside ↦ inl inside
      | inr last ↦ inr (ap suc last.0, last.1)
    ]
