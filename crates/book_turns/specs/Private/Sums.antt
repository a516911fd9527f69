-- Sums over lists. `total` is std's `sum_by` by recursion, since proofs compute it: the lemma `sum-total` of
-- proofs/Sums.antt says that they are equal.
use Rattle.std.specs.Prelude.{ℕ, ◌+◌, Bool, List, [], ◌∷◌, ◌==◌, cond}

module _ {A : Type 0} where
  -- the weights of the items, added up
  abbrev pub total : (A → ℕ) → List A → ℕ
  total f [] = 0
  total f (x ∷ xs) = f x + total f xs

abbrev pub one : Bool → ℕ
one b = cond b 1 0

-- how often d is in the list
abbrev pub often : ℕ → List ℕ → ℕ
often d xs = total (λ x. one (x == d)) xs
