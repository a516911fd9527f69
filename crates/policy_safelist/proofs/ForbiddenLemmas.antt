-- Prefixes of texts, and tests of the texts from an index on.
use Rattle.std.proofs.Common.{arith, ◌≡◌, ◌<◌, ◌+◌, ◌∷◌, [], ℕ, suc, List, length, take, drop, ap, refl, ◌∙◌, Bool}
use Rattle.std.proofs.Common.{false, Some, ◌||◌, drop-cons, add-one}
use Rattle.std.proofs.lemmas.Grind.{common_steps}
use Rattle.std.proofs.lemmas.Option.{slice_get_within, get_or_from_slice_get}
use Rattle.std.specs.List.{list_any, slice_get}
use Rattle.std.specs.Str.{str_eq_ignore_ascii_case}

-- texts of two lengths differ
differ-by_length : (a b : List ℕ) → length a < length b → str_eq_ignore_ascii_case a b ≡ false
differ-by_length [] [] lt = absurd (omega arith)
differ-by_length [] (y ∷ b) lt = refl
differ-by_length (x ∷ a) [] lt = absurd (omega arith)
differ-by_length (x ∷ a) (y ∷ b) lt = grind (arith, common_steps, differ-by_length a b)

-- a text does not begin with a longer one
pub begins_with-longer : (prefix text : List ℕ) → length text < length prefix
    → str_eq_ignore_ascii_case (take (length prefix) text) prefix ≡ false
begins_with-longer prefix text lt = grind (arith, common_steps, differ-by_length text prefix)

-- a test of the texts from an index on
pub any-from : (test : List ℕ → Bool) (texts : List (List ℕ)) (at : ℕ) (text : List ℕ) → slice_get texts at
    ≡ Some text → list_any test (drop at texts) ≡ (test text || list_any test (drop (at + 1) texts))
any-from test texts at text e = ap (λ l. list_any test l) (drop-cons texts at text (slice_get_within texts at text e)
    ∙ ap (λ (l : List ℕ). l ∷ drop (suc at) texts) (get_or_from_slice_get texts at text text e)) ∙ rw (add-one at) refl
