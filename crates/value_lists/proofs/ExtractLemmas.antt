-- Items between commas, and values that may be there once.
use Rattle.std.proofs.Common.{arith, ◌≡◌, ◌≤◌, ◌<◌, ◌++◌, ◌+◌, ◌∷◌, [], ℕ, zero, suc, List, length, take, drop}
use Rattle.std.proofs.Common.{filter, ap, refl, sym, ◌∙◌, Bool, true, false, cond, Option, Some, None, ◌==◌, ◌&&◌}
use Rattle.std.proofs.Common.{drop-cons, add-one, append_assoc}
use Rattle.std.specs.List.{flat_map, list_all, list_any, position, position_or_len, slice_get}
use Rattle.std.proofs.lemmas.Grind.{common_steps}
use Rattle.std.proofs.lemmas.Option.{cond_some, get_or_from_slice_get, slice_get_within}
use Rattle.value_text.specs.Trims.{tab_or_space, trimmed}
use Rattle.value_headers.specs.Headers.{is_named, values_of}
use Rattle.value_headers.specs.declared.headers.Header.{Header}
use Rattle.value_lists.specs.Extract.{between_commas, extracted_of, items, token_list}
use Rattle.value_text.specs.Words.{is_filled}
use Rattle.value_lists.specs.declared.extract.Rule.TheVariants.{Tokens}

-- a choice that gives nothing
not-chosen : (b : Bool) (n : ℕ) → (let o : Option ℕ = cond b (Some n) None in o ≡ None) → b ≡ false
not-chosen true n e = grind arith
not-chosen false n e = refl

-- the first comma ends the first item
between_commas-cut : (text : List ℕ) (at : ℕ) → at ≡ position_or_len (λ byte. byte == 44) text → at < length text
    → between_commas text ≡ take at text ∷ between_commas (drop 1 (drop at text))
between_commas-cut [] at e lt = grind arith
between_commas-cut (byte ∷ text) zero e lt = grind (arith, common_steps)
between_commas-cut (byte ∷ text) (suc at) e lt = grind (arith, common_steps, between_commas-cut text at)

-- without a comma the text is the one item
between_commas-whole : (text : List ℕ) → length text ≤ position_or_len (λ byte. byte == 44) text → between_commas text
    ≡ text ∷ []
between_commas-whole [] e = refl
between_commas-whole (byte ∷ text) e = grind (arith, common_steps, between_commas-whole text)

-- the items up to the first comma, and those after it
pub items-cut : (text : List ℕ) (at : ℕ) → position (λ byte. byte == 44) text ≡ Some at → items text
    ≡ filter is_filled (trimmed tab_or_space (take at text) ∷ []) ++ items (drop 1 (drop at text))
items-cut text at e =
    let found = cond_some _ _ at e in
    let cut : between_commas text ≡ take at text ∷ between_commas (drop 1 (drop at text)) =
    between_commas-cut text at (sym found.1) (grind (arith, found.0, found.1)) in
    rw cut (grind (arith, common_steps))

-- the item where there is no comma
pub items-whole : (text : List ℕ) → position (λ byte. byte == 44) text ≡ None → items text
    ≡ filter is_filled (trimmed tab_or_space text ∷ [])
items-whole text e =
    let none = not-chosen _ _ e in
    rw (between_commas-whole text (grind (arith, none))) refl

-- an item goes from what is left to the end of the list
pub listed-more : (list new found left rest whole : List (List ℕ)) → list ++ rest ≡ whole → rest ≡ found ++ left → new
    ≡ list ++ found → new ++ left ≡ whole
listed-more list new found left rest whole so_far cut is = ap (λ l. l ++ left) is ∙ append_assoc list found left
    ∙ ap (λ l. list ++ l) (sym cut) ∙ so_far

-- a name that the list contains has a value
pub named-some : (name : List ℕ) (headers : List Header) → list_any (is_named name) headers ≡ true
    → 0 < length (values_of name headers)
named-some name [] e = grind arith
named-some name (header ∷ headers) e = grind (arith, common_steps, named-some name headers)

-- where there is a value, the tokens are those of all values
pub tokens-some : (values : List (List ℕ)) → 0 < length values → extracted_of Tokens values
    ≡ token_list (flat_map items values)
tokens-some [] h = absurd (omega (arith, h))
tokens-some (value ∷ values) h = refl

-- a test of the texts from an index on
pub all-from : (test : List ℕ → Bool) (texts : List (List ℕ)) (at : ℕ) (text : List ℕ) → slice_get texts at
    ≡ Some text → list_all test (drop at texts) ≡ (test text && list_all test (drop (at + 1) texts))
all-from test texts at text e = ap (λ l. list_all test l) (drop-cons texts at text (slice_get_within texts at text e)
    ∙ ap (λ (l : List ℕ). l ∷ drop (suc at) texts) (get_or_from_slice_get texts at text text e)) ∙ rw (add-one at) refl
