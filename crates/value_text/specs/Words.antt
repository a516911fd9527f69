-- The words of a text (Infra, "split on ASCII whitespace").
use Rattle.std.specs.Prelude.{Bool, ◌==◌, not, List, length, filter}
use Rattle.std.specs.Char.{is_ascii_whitespace}
use Rattle.std.specs.List.{slice_split}
use Rattle.value_text.specs.Texts.{Text}

-- the text has a byte
abbrev pub is_filled : Text → Bool
is_filled text = not (length text == 0)

-- "split on ASCII whitespace": what is between the text's tabs, LF, FF, CR and spaces
abbrev pub words : Text → List Text
words text = filter is_filled (slice_split is_ascii_whitespace text)
