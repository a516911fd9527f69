-- The last of a list of referrer policies.
use Rattle.std.proofs.Common.{◌≡◌, List, [], ◌∷◌, unwrap_or, None, Some, refl}
use Rattle.std.specs.List.{last_or}

-- what stands for one that is not there counts like one that stands first
pub last-default : {A : Type 0} (d : A) (xs : List A)
    → unwrap_or (last_or (Some d) xs) d ≡ unwrap_or (last_or None xs) d
last-default d [] = refl
last-default d (x ∷ xs) = refl
