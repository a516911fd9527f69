-- The words of a program.
use Rattle.std.specs.Prelude.{List, String, map, string_bytes}
use Rattle.std.specs.Global.{Global}
use Rattle.value_text.specs.Texts.{Text}

-- the texts of the words
abbrev pub texts : List (String Global) → List Text
texts words = map string_bytes words
