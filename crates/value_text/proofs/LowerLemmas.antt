-- Texts are compared in lower case byte by byte.
use Rattle.std.proofs.Common.{◌≡◌, ◌==◌, ℕ, List, [], ◌∷◌, length, refl, arith}
use Rattle.std.specs.Char.{to_ascii_lowercase}
use Rattle.std.specs.List.{list_all, zip}
use Rattle.std.specs.Str.{bytes_eq, str_to_ascii_lowercase}

-- two texts of one length
pub lowered-pairs : (lower text : List ℕ) → length lower ≡ length text
    → list_all (λ pair. to_ascii_lowercase pair.0 == pair.1) (zip text lower)
    ≡ bytes_eq (str_to_ascii_lowercase text) lower
lowered-pairs [] [] same = refl
lowered-pairs [] (byte ∷ text) same = absurd (omega arith)
lowered-pairs (low ∷ lower) [] same = absurd (omega arith)
lowered-pairs (low ∷ lower) (byte ∷ text) same = rw (lowered-pairs lower text (omega arith)) refl
