-- What is kept of texts that are told one after the other.
use Rattle.std.proofs.Common.{◌≡◌, ℕ, ◌+◌, List, [], ◌++◌, length, ap, arith, length-append, append_assoc}
use Rattle.std.proofs.Common.{sym, ◌∙◌}
use Rattle.std.proofs.lemmas.List.{append-nil}
use Rattle.script_lines.specs.Kept.{Kept, whole, counted, told}

-- two texts, one after the other
pub told_both : (kept : Kept) (x y : List ℕ) → told (told kept x) y ≡ told kept (x ++ y)
unfolding told
told_both (whole text) x y = ap (λ (t : List ℕ). whole t) (append_assoc text x y)
told_both (counted count) x y = ap (λ (n : ℕ). counted n) (omega (arith, length-append x y))

-- no text
pub told_none : (kept : Kept) → told kept [] ≡ kept
unfolding told
told_none (whole text) = ap (λ (t : List ℕ). whole t) (append-nil text)
told_none (counted count) = ap (λ (n : ℕ). counted n) (omega arith)

-- nothing is left to be told
pub all_told : (all sofar : Kept) (rest : List ℕ) → told sofar rest ≡ all → rest ≡ [] → sofar ≡ all
all_told all sofar rest so none = sym (told_none sofar) ∙ ap (λ (t : List ℕ). told sofar t) (sym none) ∙ so

-- one piece more is told of what is left
pub one_told : (all sofar added : Kept) (rest piece left : List ℕ) → told sofar rest ≡ all → rest ≡ piece ++ left
    → added ≡ told sofar piece → told added left ≡ all
one_told all sofar added rest piece left so split e =
    ap (λ (k : Kept). told k left) e ∙ told_both sofar piece left ∙ ap (λ (t : List ℕ). told sofar t) (sym split) ∙ so

-- what telling a line piece by piece rests on
pub ruleset told_pieces = (told_both, told_none, append_assoc)
