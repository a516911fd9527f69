-- The first name that is refused is the first that is not listed, where no `*` covers it.
use Rattle.std.proofs.Common.{◌≡◌, ◌||◌, ◌∷◌, [], Bool, true, false, not, List, None, refl, arith}
use Rattle.std.proofs.lemmas.Grind.{common_steps}
use Rattle.std.specs.List.{find}

-- two tests that come to the same
pub find-same : {X : Type 0} (p q : X → Bool) → ((x : X) → p x ≡ q x) → (xs : List X) → find p xs ≡ find q xs
find-same p q same [] = refl
find-same p q same (x ∷ xs) = rw (same x, find-same p q same xs) refl

-- all are covered
pub find-covered : {X : Type 0} (listed : X → Bool) (covered : Bool) → covered ≡ true → (xs : List X)
    → find (λ x. not (listed x || covered)) xs ≡ None
find-covered listed covered is [] = refl
find-covered listed covered is (x ∷ xs) = grind (arith, common_steps, is, find-covered listed covered is xs)

-- none is covered
pub find-uncovered : {X : Type 0} (listed : X → Bool) (covered : Bool) → covered ≡ false → (xs : List X)
    → find (λ x. not (listed x || covered)) xs ≡ find (λ x. not (listed x)) xs
find-uncovered listed covered is [] = refl
find-uncovered listed covered is (x ∷ xs) = grind (arith, common_steps, is, find-uncovered listed covered is xs)

-- all are listed
pub find-listed : {X : Type 0} (listed : X → Bool) (covered : Bool) (xs : List X)
    → find (λ x. not (listed x)) xs ≡ None → find (λ x. not (listed x || covered)) xs ≡ None
find-listed listed covered [] is = refl
find-listed listed covered (x ∷ xs) is = grind (arith, common_steps, is, find-listed listed covered xs)
