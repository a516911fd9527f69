-- The first split value is `nosniff` exactly where the text before the first comma is.
use Rattle.std.proofs.Common.{◌≡◌, ◌⊎◌, inl, inr, ◌==◌, ℕ, zero, suc, Bool, true, false, List}
use Rattle.std.proofs.Common.{[], ◌∷◌, ◌++◌, map, reverse, drop, slice_get, refl, ap, sym, ◌∙◌}
use Rattle.std.proofs.Common.{arith, codes, Some, option_map, one-add}
use Rattle.std.proofs.lemmas.List.Sorted.{IsPermutation-reverse, list_any-IsPermutation}
use Rattle.std.proofs.lemmas.Bool.Decides.{eqb_tells, nat_tests}
use Rattle.std.specs.Char.{to_ascii_lowercase}
use Rattle.std.specs.List.{before_first, list_any}
use Rattle.std.specs.Str.{bytes_eq, str_eq_ignore_ascii_case, str_to_ascii_lowercase}
use Rattle.value_text.specs.Trims.{tab_or_space, trimmed, trimmed_start}
use Rattle.value_headers.specs.Headers.{after_comma, is_named, values_of}
use Rattle.value_headers.specs.declared.headers.Header.{Header}
use Rattle.value_text.specs.Pieces.{with_front}
use Rattle.value_lists.specs.Split.{in_quoted_string, pieces, split}
use Rattle.value_lists.specs.Nosniff.{begins_with_nosniff, nosniff}

-- the text before the first comma
abbrev until_comma : List ℕ → List ℕ
until_comma text = before_first (λ byte. byte == 44) text

until_comma-comma : (byte : ℕ) (text : List ℕ) → (byte == 44) ≡ true → until_comma (byte ∷ text) ≡ []
until_comma-comma byte text comma = rw comma refl

until_comma-other : (byte : ℕ) (text : List ℕ) → (byte == 44) ≡ false → until_comma (byte ∷ text) ≡ byte
    ∷ until_comma text
until_comma-other byte text other = rw (other, one-add) refl

-- the text has a quote
abbrev has_quote : List ℕ → Bool
has_quote text = list_any (λ byte. byte == 34) text

trimmed_start-quote : (text : List ℕ) → has_quote (trimmed_start tab_or_space text) ≡ has_quote text
trimmed_start-quote [] = refl
trimmed_start-quote (byte ∷ text) = grind (arith, nat_tests, trimmed_start-quote text)

reverse-quote : (text : List ℕ) → has_quote (reverse text) ≡ has_quote text
reverse-quote text = sym (list_any-IsPermutation (λ byte. byte == 34) text (reverse text) (IsPermutation-reverse text))

-- trimming takes no quote away
trimmed-quote : (text : List ℕ) → has_quote (trimmed tab_or_space text) ≡ has_quote text
trimmed-quote text =
    let start : List ℕ = trimmed_start tab_or_space text in
    reverse-quote (trimmed_start tab_or_space (reverse start)) ∙ trimmed_start-quote (reverse start)
    ∙ reverse-quote start ∙ trimmed_start-quote text

lowercase-quote : (byte : ℕ) → (to_ascii_lowercase byte == 34) ≡ (byte == 34)
lowercase-quote byte = grind (arith, nat_tests)

-- neither does lower case
lower-quote : (text : List ℕ) → has_quote (str_to_ascii_lowercase text) ≡ has_quote text
lower-quote [] = refl
lower-quote (byte ∷ text) = rw (lowercase-quote byte, lower-quote text) refl

-- a text with a quote is another than one without
quote-differs : (text other : List ℕ) → has_quote text ≡ true → has_quote other ≡ false → bytes_eq text other ≡ false
quote-differs [] other quote none = absurd (cc)
quote-differs (byte ∷ text) [] quote none = refl
quote-differs (byte ∷ text) (next ∷ other) quote none = grind (arith, nat_tests, quote-differs text other)

-- and so it is not `nosniff`
abbrev is_nosniff : List ℕ → Bool
is_nosniff text = str_eq_ignore_ascii_case (trimmed tab_or_space text) (codes "nosniff")

quote-not_nosniff : (text : List ℕ) → has_quote text ≡ true → is_nosniff text ≡ false
quote-not_nosniff text quote =
    quote-differs (str_to_ascii_lowercase (trimmed tab_or_space text)) (codes "nosniff")
    (lower-quote (trimmed tab_or_space text) ∙ trimmed-quote text ∙ quote) refl

-- the first piece of a text
abbrev first_piece : List (List ℕ) → List ℕ
first_piece [] = []
first_piece (piece ∷ pieces) = piece

first_piece-with_front : (byte : ℕ) (parts : List (List ℕ)) → first_piece (with_front byte parts) ≡ byte
    ∷ first_piece parts
first_piece-with_front byte [] = refl
first_piece-with_front byte (piece ∷ parts) = refl

first_piece-comma : (byte : ℕ) (text : List ℕ) → (byte == 44) ≡ true → first_piece (pieces (byte ∷ text)) ≡ []
first_piece-comma byte text comma = rw comma refl

first_piece-quote : (byte : ℕ) (text : List ℕ) → (byte == 44) ≡ false → (byte == 34) ≡ true
    → first_piece (pieces (byte ∷ text)) ≡ byte ∷ first_piece (in_quoted_string text)
first_piece-quote byte text other quote = rw (other, quote) (first_piece-with_front byte (in_quoted_string text))

first_piece-other : (byte : ℕ) (text : List ℕ) → (byte == 44) ≡ false → (byte == 34) ≡ false
    → first_piece (pieces (byte ∷ text)) ≡ byte ∷ first_piece (pieces text)
first_piece-other byte text other plain = rw (other, plain) (first_piece-with_front byte (pieces text))

has_quote-quote : (byte : ℕ) (text : List ℕ) → (byte == 34) ≡ true → has_quote (byte ∷ text) ≡ true
has_quote-quote byte text quote = rw quote refl

has_quote-other : (byte : ℕ) (text : List ℕ) → (byte == 34) ≡ false → has_quote (byte ∷ text) ≡ has_quote text
has_quote-other byte text other = rw other refl

-- the first piece is the text before the first comma, or both have a quote
abbrev IsFirst : List ℕ → Type 0
IsFirst text = (first_piece (pieces text) ≡ until_comma text)
    ⊎ ((has_quote (first_piece (pieces text)) ≡ true) × (has_quote (until_comma text) ≡ true))

IsFirst-quote : (byte : ℕ) (text : List ℕ) → (byte == 44) ≡ false → (byte == 34) ≡ true → IsFirst (byte ∷ text)
IsFirst-quote byte text other quote =
    inr (
      ap (λ l. has_quote l) (first_piece-quote byte text other quote)
          ∙ has_quote-quote byte (first_piece (in_quoted_string text)) quote,
      ap (λ l. has_quote l) (until_comma-other byte text other) ∙ has_quote-quote byte (until_comma text) quote,
    )

IsFirst-other : (byte : ℕ) (text : List ℕ) → (byte == 44) ≡ false → (byte == 34) ≡ false → IsFirst text
    → IsFirst (byte ∷ text)
IsFirst-other byte text other plain (inl same) =
    inl (first_piece-other byte text other plain ∙ ap (λ l. byte ∷ l) same ∙ sym (until_comma-other byte text other))
IsFirst-other byte text other plain (inr quotes) =
    inr (
      ap (λ l. has_quote l) (first_piece-other byte text other plain)
          ∙ has_quote-other byte (first_piece (pieces text)) plain ∙ quotes.0,
      ap (λ l. has_quote l) (until_comma-other byte text other) ∙ has_quote-other byte (until_comma text) plain
          ∙ quotes.1,
    )

first_piece-is : (text : List ℕ) → IsFirst text
first_piece-is [] = inl refl
first_piece-is (byte ∷ text) =
    elim (eqb_tells byte 44) [
      | inl comma ↦ inl (first_piece-comma byte text comma.0 ∙ sym (until_comma-comma byte text comma.0))
      | inr other ↦
          elim (eqb_tells byte 34) [
            | inl quote ↦ IsFirst-quote byte text other.0 quote.0
            | inr plain ↦ IsFirst-other byte text other.0 plain.0 (first_piece-is text)
          ]
    ]

same-is_nosniff : (text : List ℕ) → IsFirst text → is_nosniff (first_piece (pieces text))
    ≡ is_nosniff (until_comma text)
same-is_nosniff text (inl same) = ap (λ l. is_nosniff l) same
same-is_nosniff text (inr quotes) =
    quote-not_nosniff (first_piece (pieces text)) quotes.0 ∙ sym (quote-not_nosniff (until_comma text) quotes.1)

begins-first_piece : (parts : List (List ℕ)) → begins_with_nosniff (Some (map (trimmed tab_or_space) parts))
    ≡ is_nosniff (first_piece parts)
begins-first_piece [] = refl
begins-first_piece (piece ∷ parts) = refl

-- a comma comes before what is joined to a value
until_comma-append : (value : List ℕ) (values : List (List ℕ)) → until_comma (value ++ after_comma values)
    ≡ until_comma value
until_comma-append [] [] = refl
until_comma-append [] (next ∷ values) = refl
until_comma-append (byte ∷ value) values =
    elim (eqb_tells byte 44) [
      | inl comma ↦ until_comma-comma byte (value ++ after_comma values) comma.0
          ∙ sym (until_comma-comma byte value comma.0)
      | inr other ↦ until_comma-other byte (value ++ after_comma values) other.0
          ∙ ap (λ l. byte ∷ l) (until_comma-append value values) ∙ sym (until_comma-other byte value other.0)
    ]

-- the first of the split values is looked at in the first value alone
begins_with_nosniff-first : (value : List ℕ) (values : List (List ℕ))
    → begins_with_nosniff (Some (split (value ++ after_comma values))) ≡ is_nosniff (until_comma value)
begins_with_nosniff-first value values =
    let text : List ℕ = value ++ after_comma values in
    begins-first_piece (pieces text) ∙ same-is_nosniff text (first_piece-is text)
    ∙ ap (λ l. is_nosniff l) (until_comma-append value values)

-- a header of another name says nothing
nosniff-other : (header : Header) (headers : List Header) → is_named (codes "X-Content-Type-Options") header ≡ false
    → nosniff (header ∷ headers) ≡ nosniff headers
nosniff-other header headers other = rw other refl

-- the first header of the name says it
nosniff-named : (header : Header) (headers : List Header) → is_named (codes "X-Content-Type-Options") header ≡ true
    → nosniff (header ∷ headers) ≡ is_nosniff (until_comma header.value)
nosniff-named header headers named =
    rw named (begins_with_nosniff-first header.value (values_of (codes "X-Content-Type-Options") headers))

-- the same of the header at an index
pub nosniff-skipped : (headers : List Header) (index : ℕ) (name : List ℕ)
    → option_map (λ header. header.name) (slice_get headers index) ≡ Some name
    → str_eq_ignore_ascii_case name (codes "X-Content-Type-Options") ≡ false → nosniff (drop index headers)
    ≡ nosniff (drop (suc index) headers)
nosniff-skipped [] index name here other = absurd (cc)
nosniff-skipped (header ∷ headers) zero name here other =
    let same : header.name ≡ name = cc in
    nosniff-other header headers (ap (λ n. str_eq_ignore_ascii_case n (codes "X-Content-Type-Options")) same ∙ other)
nosniff-skipped (header ∷ headers) (suc index) name here other = nosniff-skipped headers index name here other

pub nosniff-found : (headers : List Header) (index : ℕ) (name value : List ℕ)
    → option_map (λ header. header.name) (slice_get headers index) ≡ Some name
    → option_map (λ header. header.value) (slice_get headers index) ≡ Some value
    → str_eq_ignore_ascii_case name (codes "X-Content-Type-Options") ≡ true → nosniff (drop index headers)
    ≡ is_nosniff (until_comma value)
nosniff-found [] index name value here there named = absurd (cc)
nosniff-found (header ∷ headers) zero name value here there named =
    let same : header.name ≡ name = cc in
    let same_value : header.value ≡ value = cc in
    nosniff-named header headers (ap (λ n. str_eq_ignore_ascii_case n (codes "X-Content-Type-Options")) same ∙ named)
    ∙ ap (λ v. is_nosniff (until_comma v)) same_value
nosniff-found (header ∷ headers) (suc index) name value here there named =
    nosniff-found headers index name value here there named
