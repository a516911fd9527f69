-- What is in a text to which pieces were added, and how long headers on their lines are.
use Rattle.std.proofs.Common.{◌≡◌, ℕ, List, [], ◌++◌, ap, ◌∙◌}
use Rattle.value_lemmas.proofs.Lists.{append-three}

-- four pieces, the first at the front
pub added-four : (one two three four : List ℕ) (empty first second third fourth : List ℕ)
    → empty ≡ [] → first ≡ empty ++ one → second ≡ first ++ two → third ≡ second ++ three → fourth ≡ third ++ four
    → fourth ≡ one ++ (two ++ (three ++ four))
added-four one two three four empty first second third fourth e a b c d =
    append-three one two three four second third fourth (b
    ∙ ap (λ (l : List ℕ). l ++ two) (a ∙ ap (λ (l : List ℕ). l ++ one) e)) c d
