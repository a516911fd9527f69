-- Allow tables: which origin may call with which methods, with which header names, and whether with
-- credentials.
use Rattle.std.specs.Prelude.{Bool, false, ◌&&◌, ◌||◌, not, List, Option, Some, None, bytes_eq}
use Rattle.std.specs.List.{find, list_all, list_any}
use Rattle.value_text.specs.Texts.{Text}
use Rattle.server_tables.specs.declared.table.Row.{Row}

-- the list has the text
abbrev pub lists : List Text → Text → Bool
lists texts text = list_any (λ item. bytes_eq item text) texts

-- the first row with this origin, if one has it
abbrev pub row_of : List Row → Text → Option Row
row_of table origin = find (λ row. bytes_eq row.origin origin) table

-- the row lists the method and each of the names, and has credentials where the request has them
abbrev pub row_allows : Option Row → Text → List Text → Bool → Bool
row_allows None method names include = false
row_allows (Some row) method names include =
    lists row.methods method && list_all (lists row.names) names && (not include || row.credentials)

-- "allows": the first row with this origin does
abbrev pub allows : List Row → Text → Text → List Text → Bool → Bool
allows table origin method names include = row_allows (row_of table origin) method names include
