-- What is kept of lines that are told piece by piece: the text that they make, or how many bytes it has.
use Rattle.std.specs.Prelude.{◌≡◌, ℕ, ◌+◌, ◌-◌, ◌^◌, ◌++◌, length, min}
use Rattle.value_text.specs.Texts.{Text}

-- the text itself, or how many bytes it has
pub data Kept : Type 0 where
  whole : Text → Kept
  counted : ℕ → Kept

-- so many and some more, as far as 64 bits tell
abbrev pub plus : ℕ → ℕ → ℕ
plus count more = count + min more (2 ^ 64 - 1 - count)

-- what is kept once some more text was told
unfoldable pub told : Kept → Text → Kept
told (whole before) text = whole (before ++ text)
told (counted count) text = counted (plus count (length text))

-- that text was told from the one to the other
abbrev pub Told : Kept → Kept → Text → Type 0
Told old new text = new ≡ told old text
