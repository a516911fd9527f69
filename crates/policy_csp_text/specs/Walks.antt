-- The words of a text, walked one by one.
use Rattle.std.specs.Prelude.{◌≡◌, [], ◌∷◌, drop, Option, Some, None, if◌then◌else◌}
use Rattle.std.specs.Borrow.{Bor}
use Rattle.std.specs.Char.{is_ascii_whitespace}
use Rattle.std.specs.List.{position_or_len}
use Rattle.value_text.specs.Texts.{Text}
use Rattle.value_text.specs.Words.{words}

-- the first word of a text and the words behind it, or nothing where the text has no word
abbrev pub IsFirstWord : Text → Option (Bor Text × Bor Text) → Type 0
IsFirstWord text None = words text ≡ []
IsFirstWord text (Some found) = words text ≡ found.0.now ∷ words found.1.now

-- the text from its first byte on that is no ASCII whitespace
abbrev pub behind_blanks : Text → Text
behind_blanks [] = []
behind_blanks (byte ∷ rest) = if is_ascii_whitespace byte then behind_blanks rest else byte ∷ rest

-- the text from the first ASCII whitespace on that stands behind its first word
abbrev pub behind_first_word : Text → Text
behind_first_word text = drop (position_or_len is_ascii_whitespace (behind_blanks text)) (behind_blanks text)
