-- Texts as lists of bytes: when two of them are one.
use Rattle.std.proofs.Common.{◌≡◌, ℕ, List, true, refl, ap, sym, ◌∙◌}
use Rattle.std.proofs.lemmas.Map.Text.{is_eq-slice_cmp}
use Rattle.std.proofs.lemmas.Slice.Eq.{bytes_eq-Decides}
use Rattle.std.specs.Cmp.Lexicographic.{slice_cmp}
use Rattle.std.specs.Ordering.{is_eq, nat_cmp}
use Rattle.std.specs.Str.{bytes_eq, str_eq_ignore_ascii_case, str_to_ascii_lowercase}

pub bytes_eq-self : (text : List ℕ) → bytes_eq text text ≡ true
bytes_eq-self text = (bytes_eq-Decides text text).1 refl

pub bytes_eq-true : (a b : List ℕ) → bytes_eq a b ≡ true → a ≡ b
bytes_eq-true a b e = (bytes_eq-Decides a b).0 e

-- by the order of texts, neither before the other
pub slice_cmp-equal : (a b : List ℕ) → is_eq (slice_cmp nat_cmp a b) ≡ true → a ≡ b
slice_cmp-equal a b e = bytes_eq-true a b (sym (is_eq-slice_cmp a b) ∙ e)

-- texts that are equal, case aside, are equal to the same texts
pub eq_ignore_case-alike : (a b other : List ℕ) → str_eq_ignore_ascii_case a b ≡ true
    → str_eq_ignore_ascii_case a other ≡ str_eq_ignore_ascii_case b other
eq_ignore_case-alike a b other e =
    ap (λ (lower : List ℕ). bytes_eq lower (str_to_ascii_lowercase other))
    (bytes_eq-true (str_to_ascii_lowercase a) (str_to_ascii_lowercase b) e)
