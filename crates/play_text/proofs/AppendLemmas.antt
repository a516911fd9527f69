-- What loops that add text piece by piece keep.
use Rattle.std.proofs.Common.{◌≡◌, ℕ, List, ◌++◌, append_assoc, ap, sym, ◌∙◌}

-- of what is left, one piece more is added
pub one_added : (all sofar added rest piece left : List ℕ) → sofar ++ rest ≡ all → rest ≡ piece ++ left
    → added ≡ sofar ++ piece → added ++ left ≡ all
one_added all sofar added rest piece left so split e =
    ap (λ (l : List ℕ). l ++ left) e ∙ append_assoc sofar piece left ∙ ap (λ (l : List ℕ). sofar ++ l) (sym split) ∙ so
