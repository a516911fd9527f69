-- The values of a JSON text (RFC 8259), over the tokens of the text from where each begins.
use Rattle.std.specs.Prelude.{ℕ, ◌+◌, List, ◌∷◌, length, Option, Some, None, option_and_then}
use Rattle.json.specs.Token.{Token}
use Rattle.json.specs.Json as json
use Rattle.serde_json.specs.Data.{Data, null, Items, no_items, item}
use Rattle.serde_json.specs.Find.{as_array}
use Rattle.serde_json.specs.Read.{of_json}

abbrev pub or_null : Option Data → Data
or_null None = null
or_null (Some meaning) = meaning

-- what the value that the tokens begin with means; it nests no deeper than there are tokens
unfoldable pub data_of : List Token → Data
data_of tokens = or_null (option_and_then (λ read. of_json read.0) (json.value (length tokens) tokens))

abbrev pub or_no_items : Option Items → Items
or_no_items None = no_items
or_no_items (Some items) = items

-- what the items mean that the tokens begin with: those of an array from there on
abbrev pub trees_of : List Token → Items
trees_of tokens = or_no_items (as_array (data_of (Token.begin_array ∷ tokens)))

-- how many items there are
abbrev pub count : Items → ℕ
count no_items = 0
count (item meaning items) = count items + 1
