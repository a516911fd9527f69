-- The last URL of a list.
use Rattle.std.proofs.Common.{◌≡◌, ◌∙◌, ◌<◌, ◌-◌, ℕ, List, [], ◌∷◌, length, Option, Some, None, refl, sym, ap, arith}
use Rattle.std.specs.Prelude.{slice_get, unwrap_or}
use Rattle.std.specs.List.{last_or}

pub last-at : {A : Type 0} (o : Option A) (x : A) (xs : List A) → slice_get (x ∷ xs) (length xs) ≡ last_or o (x ∷ xs)
last-at o x [] = refl
last-at o x (y ∷ ys) = last-at (Some x) y ys

pub last-got : {A : Type 0} (d x : A) (xs : List A) (n : ℕ) → 0 < length xs → n ≡ length xs → slice_get xs (n - 1)
    ≡ Some x → x ≡ unwrap_or (last_or None xs) d
last-got d x [] n some is got = absurd (omega (arith, some))
last-got {A} d x (y ∷ ys) n some is got =
    let k : length ys ≡ n - 1 = omega (arith, is) in
    ap (λ (o : Option A). unwrap_or o d) (sym got ∙ ap (slice_get (y ∷ ys)) (sym k) ∙ last-at None y ys)
