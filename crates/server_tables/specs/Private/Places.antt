-- How a table finds a row: the place of the first row with each origin.
use Rattle.std.specs.Prelude.{◌≡◌, ℕ, Bool, List, Option, bytes_eq}
use Rattle.std.specs.List.{position_from}
use Rattle.std.specs.Map.{lookup}
use Rattle.std.specs.declared.cmp.Ordering.{Ordering}
use Rattle.std.specs.Ordering.{is_eq}
use Rattle.value_text.specs.Texts.{Text}
use Rattle.value_text.specs.Orders.{text_cmp}
use Rattle.server_tables.specs.declared.table.Row.{Row}

-- the place of the first row with this origin, if one has it
abbrev pub place_of : Text → List Row → Option ℕ
place_of origin rows = position_from (λ row. bytes_eq row.origin origin) 0 rows

module _ {K : Type 0} (bytes : K → Text) where
  -- the order of keys by their bytes
  abbrev pub key_cmp : K → K → Ordering
  key_cmp a b = text_cmp (bytes a) (bytes b)

  -- the key is this text
  abbrev pub is_key : Text → K → Bool
  is_key text key = is_eq (text_cmp text (bytes key))

  -- under each origin that a row has, and under no other text, its first row's place is kept
  abbrev pub ArePlaced : List (K × ℕ) → List Row → Type 0
  ArePlaced entries rows = (origin : Text) → lookup (is_key origin) entries ≡ place_of origin rows
