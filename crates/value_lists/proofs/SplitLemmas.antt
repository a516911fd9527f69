-- What each byte of a text does to its pieces.
use Rattle.std.proofs.Common.{arith, ◌≡◌, ◌++◌, ◌∷◌, [], ℕ, List, refl, map, Bool, true}
use Rattle.std.proofs.Common.{false, cond, Option, Some, None, nat_eq}
use Rattle.std.proofs.lemmas.Grind.{common_steps}
use Rattle.value_text.specs.Trims.{tab_or_space, trimmed}
use Rattle.value_headers.specs.Headers.{after_comma}
use Rattle.value_text.specs.Pieces.{with_front}
use Rattle.value_lists.specs.Split.{pieces, in_quoted_string}
use Rattle.value_lists.specs.Private.Splitting.{onto, split_with}
use Rattle.value_lists.specs.declared.split.Splitter.{Splitter}

-- nothing put before pieces with a byte at their front leaves them
onto-nothing-front : (byte : ℕ) (pieces : List (List ℕ)) → onto [] (with_front byte pieces) ≡ with_front byte pieces
onto-nothing-front byte [] = refl
onto-nothing-front byte (piece ∷ pieces) = refl

-- a choice of pieces that nothing changes
onto-nothing-choice : (b : Bool) (ps qs : List (List ℕ)) → onto [] ps ≡ ps → onto [] qs ≡ qs → onto [] (cond b ps qs)
    ≡ cond b ps qs
onto-nothing-choice true ps qs p q = p
onto-nothing-choice false ps qs p q = q

-- nothing put before the pieces of a text leaves them
pub onto-nothing : (text : List ℕ) → onto [] (pieces text) ≡ pieces text
onto-nothing [] = refl
onto-nothing (byte ∷ text) =
    onto-nothing-choice (nat_eq byte 44) _ _ refl
    (onto-nothing-choice (nat_eq byte 34) _ _ (onto-nothing-front byte (in_quoted_string text))
    (onto-nothing-front byte (pieces text)))

-- a comma that ends it
pub ended-there : (ended : List (List ℕ)) (piece rest : List ℕ) (qs : List (List ℕ)) → qs ≡ [] ∷ pieces rest
    → (ended ++ trimmed tab_or_space piece ∷ []) ++ map (trimmed tab_or_space) (onto [] (pieces rest)) ≡ ended
    ++ map (trimmed tab_or_space) (onto piece qs)
ended-there ended piece rest qs e = grind (arith, common_steps, onto-nothing rest)

-- what a splitter that has the values so far comes to with the values that are left
abbrev pub goes_on : Bool → Splitter → List (List ℕ) → Option (List (List ℕ))
goes_on false splitter [] = None
goes_on false splitter (value ∷ values) = Some (split_with splitter (value ++ after_comma values))
goes_on true splitter values = Some (split_with splitter (after_comma values))
