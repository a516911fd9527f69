-- Sums over lists that change at one place, and how long a list of distinct small numbers is.
use Rattle.std.proofs.Common.{◌≡◌, ℕ, zero, suc, ◌+◌, ◌*◌, ◌<◌, ◌≤◌, ◌≢◌, List, [], ◌∷◌, ◌++◌, length, set, sym, refl}
use Rattle.std.proofs.Common.{ap, arith, eqb, eq-eqb, ne_eqb}
use Rattle.std.specs.Prelude.{◌==◌}
use Rattle.std.specs.List.{All, sum_by}
use Rattle.std.proofs.lemmas.List.Sums.{sum_by-cons}
use Rattle.std.proofs.lemmas.List.Elements.{All-head, All-tail}
use mathlib.Core.Logic.{dite}
use native.Mathlib.Decide.{ℕ_discrete, dec_le}
use mathlib.Core.Option.{some, some-injective, some-ne-none}
use lib.ListN.{get_elem?}
use Rattle.book_turns.specs.Counts.{times}
use Rattle.book_turns.specs.Private.Sums.{total, one, often}

module _ {A : Type 0} where
  pub total-append : (g : A → ℕ) (l m : List A) → total g (l ++ m) ≡ total g l + total g m
  total-append g [] m = omega arith
  total-append g (x ∷ xs) m = omega (arith, total-append g xs m)

  pub total-set : (g : A → ℕ) (l : List A) (j : ℕ) (v w : A) → get_elem? l j ≡ some v → total g (set l j w) + g v
      ≡ total g l + g w
  total-set g [] j v w e = absurd (some-ne-none v (sym e))
  total-set g (x ∷ xs) zero v w e = omega (arith, ap g (some-injective x v e))
  total-set g (x ∷ xs) (suc j) v w e = omega (arith, total-set g xs j v w e)

  -- a sum whose terms are within c times those of another
  pub total-le : (f g : A → ℕ) (c : ℕ) (l : List A) → ((i : ℕ) (x : A) → get_elem? l i ≡ some x → f x ≤ c * g x)
      → total f l ≤ c * total g l
  total-le f g c [] h = omega arith
  total-le f g c (x ∷ xs) h = let here : f x ≤ c * g x = h zero x refl in let later : total f xs ≤ c * total g xs =
      total-le f g c xs (λ i y e. h (suc i) y e) in omega arith

  pub total-plus : (f g : A → ℕ) (l : List A) → total (λ x. f x + g x) l ≡ total f l + total g l
  total-plus f g [] = refl
  total-plus f g (x ∷ xs) = omega (arith, total-plus f g xs)

  pub total-zero : (l : List A) → total (λ _. 0) l ≡ 0
  total-zero [] = refl
  total-zero (x ∷ xs) = omega (arith, total-zero xs)

  pub total-same : (f g : A → ℕ) (l : List A) → ((x : A) → f x ≡ g x) → total f l ≡ total g l
  total-same f g [] h = refl
  total-same f g (x ∷ xs) h = omega (arith, h x, total-same f g xs h)

  pub total-alike : (f g : A → ℕ) (l : List A) → All (λ x. f x ≡ g x) l → total f l ≡ total g l
  total-alike f g [] h = refl
  total-alike f g (x ∷ xs) h = let P : A → Type 0 = λ y. f y ≡ g y in let here : f x ≡ g x = All-head P x xs h in
      omega (arith, total-alike f g xs (All-tail P x xs h))

  pub sum-total : (f : A → ℕ) (l : List A) → sum_by f l ≡ total f l
  sum-total f [] = refl
  sum-total f (x ∷ xs) = omega (arith, sum_by-cons f x xs, sum-total f xs)

pub times-often : (d : ℕ) (xs : List ℕ) → times d xs ≡ often d xs
times-often d xs = sum-total (λ (x : ℕ). one (x == d)) xs

below : (ℕ → ℕ) → ℕ → ℕ
below f zero = 0
below f (suc n) = f n + below f n

below_zero : (n : ℕ) → below (λ _. 0) n ≡ 0
unfolding below
below_zero zero = refl
below_zero (suc n) = omega (arith, below_zero n)

below_plus : (f g : ℕ → ℕ) (n : ℕ) → below (λ d. f d + g d) n ≡ below f n + below g n
unfolding below
below_plus f g zero = refl
below_plus f g (suc n) = omega (arith, below_plus f g n)

-- x is met once below n, where it is below n
below_one : (x n : ℕ) → ((n ≤ x → below (λ d. one (eqb x d)) n ≡ 0) × (x < n → below (λ d. one (eqb x d)) n ≡ 1))
unfolding below
below_one x zero = ((λ _. refl), λ h. absurd (omega arith))
below_one x (suc n) =
    let before = below_one x n in
    dite (ℕ_discrete x n)
    (λ e. let here : one (eqb x n) ≡ 1 = ap one (eq-eqb x n e) in let none-yet = before.0 (omega arith) in
    ((λ h. absurd (omega arith)), λ _. omega arith))
    (λ ne. let here : one (eqb x n) ≡ 0 = ap one (ne_eqb x n ne) in
    ((λ h. omega (arith, before.0 (omega arith))), λ h. omega (arith, before.1 (omega arith))))

pub often-here : (x : ℕ) (xs : List ℕ) → 0 < often x (x ∷ xs)
often-here x xs = let here : one (eqb x x) ≡ 1 = ap one (eq-eqb x x refl) in omega arith

counted : (n : ℕ) (xs : List ℕ) → ((d : ℕ) → n ≤ d → often d xs ≡ 0) → below (λ d. often d xs) n ≡ length xs
counted n [] small = below_zero n
counted n (x ∷ xs) small =
    let near : x < n = dite (dec_le n x) (λ far. let none : often x (x ∷ xs) ≡ 0 = small x far in let some-there =
    often-here x xs in absurd (omega arith)) (λ h. omega arith) in
    let later = counted n xs (λ d far. let all : often d (x ∷ xs) ≡ 0 = small d far in omega arith) in
    let both = below_plus (λ d. one (eqb x d)) (λ d. often d xs) n in let first = (below_one x n).1 near in omega arith

unit_sum : (f : ℕ → ℕ) (n : ℕ) → ((d : ℕ) → f d ≤ 1) → below f n ≤ n
unfolding below
unit_sum f zero h = omega arith
unit_sum f (suc n) h = omega (arith, h n, unit_sum f n h)

-- a list that has no number twice, and no number from n on, is at most n long
pub pigeons : (n : ℕ) (xs : List ℕ) → ((d : ℕ) → often d xs ≤ 1) → ((d : ℕ) → n ≤ d → often d xs ≡ 0) → length xs ≤ n
pigeons n xs once small = let a = counted n xs small in let b = unit_sum (λ d. often d xs) n once in omega arith

-- numbers that are not 0 on a list add up to no less than its length, and any of them is within what is more
pub at-least : (c : ℕ → ℕ) (xs : List ℕ) → ((x : ℕ) → 0 < often x xs → 1 ≤ c x) → length xs ≤ total c xs
at-least c [] some-there = omega arith
at-least c (x ∷ xs) some-there =
    let here : 1 ≤ c x = some-there x (often-here x xs) in
    omega (arith, at-least c xs (λ y h. some-there y (omega arith)))

pub at-most : (c : ℕ → ℕ) (xs : List ℕ) → ((x : ℕ) → 0 < often x xs → 1 ≤ c x) → (d : ℕ) → 0 < often d xs
    → length xs + c d ≤ total c xs + 1
at-most c [] some-there d h = absurd (omega arith)
at-most c (x ∷ xs) some-there d h =
    let here : 1 ≤ c x = some-there x (often-here x xs) in
    dite (ℕ_discrete x d)
    (λ (is : x ≡ d). let same : c x ≡ c d = ap c is in omega (arith, at-least c xs (λ y k. some-there y (omega arith))))
    (λ (ne : x ≢ d). let z : one (eqb x d) ≡ 0 = ap one (ne_eqb x d ne) in
    omega (arith, at-most c xs (λ y k. some-there y (omega arith)) d (omega arith)))
