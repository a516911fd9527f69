-- Sets of texts, seen as lists of them.
use Rattle.std.specs.Prelude.{Bool, List, bytes_eq}
use Rattle.std.specs.List.{list_any}
use Rattle.value_text.specs.Texts.{Text}

-- one of the texts is this one, byte for byte
abbrev pub has_text : List Text → Text → Bool
has_text texts text = list_any (λ item. bytes_eq item text) texts
