-- What keeping some headers of a list comes to.
use Rattle.std.proofs.Common.{◌≡◌, ◌&&◌, ◌∷◌, [], Bool, List, filter, refl, arith}
use Rattle.std.proofs.lemmas.Grind.{common_steps}

-- two filters are one
pub filter-both : {X : Type 0} (p q r : X → Bool) → ((x : X) → r x ≡ (q x && p x)) → (xs : List X)
    → filter p (filter q xs) ≡ filter r xs
filter-both p q r h [] = refl
filter-both p q r h (x ∷ xs) = grind (arith, common_steps, filter-both p q r h xs, h x)
