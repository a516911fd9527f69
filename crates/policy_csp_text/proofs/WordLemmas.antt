-- The first word of a text, and the words behind it.
use Rattle.std.proofs.Common.{◌≡◌, ◌∙◌, ◌∷◌, [], ◌<◌, ◌≤◌, ◌+◌, ℕ, Bool, true, false, List, length, take, drop, filter}
use Rattle.std.proofs.Common.{None, refl, sym, ap, arith, suc, zero}
use Rattle.std.proofs.lemmas.Grind.{common_steps}
use Rattle.std.proofs.lemmas.List.Splits.{slice_split-cons_no}
use Rattle.std.specs.Char.{is_ascii_whitespace}
use Rattle.std.specs.List.{onto_first, position, position_or_len, slice_split}
use Rattle.value_text.specs.Words.{is_filled, words}
use Rattle.policy_csp_text.specs.Walks.{behind_blanks}

-- the first word does not end behind the text
pub within : (text : List ℕ) → position_or_len is_ascii_whitespace text ≤ length text
within [] = omega arith
within (byte ∷ rest) = grind (arith, common_steps, within rest)

-- a text without a blank is one word
pub one-word : (text : List ℕ) → position is_ascii_whitespace text ≡ None
    → length text ≡ position_or_len is_ascii_whitespace text
one-word text none = grind (arith, common_steps, within text, none)

-- what is in front of the first word makes none
behind-by : (byte : ℕ) (rest : List ℕ) (blank : Bool) → is_ascii_whitespace byte ≡ blank
    → words rest ≡ words (behind_blanks rest) → words (byte ∷ rest) ≡ words (behind_blanks (byte ∷ rest))
behind-by byte rest true is h = rw is h
behind-by byte rest false is h =
    let stays : behind_blanks (byte ∷ rest) ≡ byte ∷ rest = rw is refl in ap words (sym stays)

pub words-behind : (text : List ℕ) → words text ≡ words (behind_blanks text)
words-behind [] = refl
words-behind (byte ∷ rest) = behind-by byte rest (is_ascii_whitespace byte) refl (words-behind rest)

-- it is not longer
pub behind-shorter : (text : List ℕ) → length (behind_blanks text) ≤ length text
behind-shorter [] = omega arith
behind-shorter (byte ∷ rest) = grind (arith, common_steps, behind-shorter rest)

-- a text whose first part is this one, and whose words behind it are those of this rest
abbrev Begins : List ℕ → List ℕ → List ℕ → Type 0
Begins text first rest = (parts : List (List ℕ)) × (slice_split is_ascii_whitespace text ≡ first ∷ parts)
    × (filter is_filled parts ≡ words rest)

begins-by : (byte : ℕ) (rest : List ℕ) (blank : Bool) → is_ascii_whitespace byte ≡ blank
    → Begins rest (take (position_or_len is_ascii_whitespace rest) rest)
    (drop (position_or_len is_ascii_whitespace rest) rest)
    → Begins (byte ∷ rest) (take (position_or_len is_ascii_whitespace (byte ∷ rest)) (byte ∷ rest))
    (drop (position_or_len is_ascii_whitespace (byte ∷ rest)) (byte ∷ rest))
begins-by byte rest true is h = rw is (slice_split is_ascii_whitespace rest, refl, rw is refl)
begins-by byte rest false is h =
    let count : position_or_len is_ascii_whitespace (byte ∷ rest) ≡ suc (position_or_len is_ascii_whitespace rest) =
    grind (arith, common_steps, is) in
    rw count (h.0, slice_split-cons_no is_ascii_whitespace byte rest is ∙ ap (onto_first byte) h.1, h.2)

begins : (text : List ℕ) → Begins text (take (position_or_len is_ascii_whitespace text) text)
    (drop (position_or_len is_ascii_whitespace text) text)
begins [] = ([], refl, refl)
begins (byte ∷ rest) = begins-by byte rest (is_ascii_whitespace byte) refl (begins rest)

-- the first word of a text without blanks in front
first-by : (text : List ℕ) (first rest : List ℕ) → Begins text first rest → is_filled first ≡ true
    → words text ≡ first ∷ words rest
first-by text first rest h filled = rw (h.1, filled, h.2) refl

-- behind the blanks no text begins with one
behind-filled-by : (byte : ℕ) (rest : List ℕ) (blank : Bool) → is_ascii_whitespace byte ≡ blank
    → (0 < length (behind_blanks rest) → 0 < position_or_len is_ascii_whitespace (behind_blanks rest))
    → 0 < length (behind_blanks (byte ∷ rest)) → 0 < position_or_len is_ascii_whitespace (behind_blanks (byte ∷ rest))
behind-filled-by byte rest true is h = rw is h
behind-filled-by byte rest false is h = λ less. grind (arith, common_steps, is)

pub behind-filled : (text : List ℕ) → 0 < length (behind_blanks text)
    → 0 < position_or_len is_ascii_whitespace (behind_blanks text)
behind-filled [] less = less
behind-filled (byte ∷ rest) less =
    behind-filled-by byte rest (is_ascii_whitespace byte) refl (behind-filled rest) less

-- a front that has a byte is filled
taken-filled : (count : ℕ) (text : List ℕ) → 0 < count → 0 < length text → is_filled (take count text) ≡ true
taken-filled count [] some less = grind arith
taken-filled zero (byte ∷ rest) some less = grind arith
taken-filled (suc count) (byte ∷ rest) some less = grind (arith, common_steps)

-- the first word of a text, and what stands behind it
pub first-word : (text filled : List ℕ) (count : ℕ) → filled ≡ behind_blanks text → 0 < length filled
    → count ≡ position_or_len is_ascii_whitespace filled → words text ≡ take count filled ∷ words (drop count filled)
first-word text filled count is less counted =
    rw (counted, is) (words-behind text
    ∙ first-by (behind_blanks text) _ (drop (position_or_len is_ascii_whitespace (behind_blanks text)) (behind_blanks text))
    (begins (behind_blanks text))
    (taken-filled _ (behind_blanks text) (behind-filled text (rw is at less)) (rw is at less)))
