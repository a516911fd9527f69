-- Templates: texts in which `${` begins a placeholder for a part of the last result (this project's own; a script in
-- HTML would put such texts together itself).
use Rattle.std.specs.Prelude.{ℕ, Bool, ◌&&◌, ◌||◌, ◌==◌, nat_eq, List, [], ◌∷◌, ◌++◌, codes, bytes_eq, drop}
use Rattle.std.specs.Prelude.{is_some, if◌then◌else◌}
use Rattle.std.specs.List.{list_all, list_any, flat_map, position, starts_with, before_first, after_first}
use Rattle.value_text.specs.Texts.{Text}
use Rattle.value_text.specs.Pieces.{with_front}
use Rattle.value_text.specs.Tokens.{is_token}

-- ---- the pieces of a text

-- the two bytes are `${`
abbrev pub opens : ℕ → ℕ → Bool
opens byte next = byte == 36 && next == 123

-- what is between the `${` of a text, in order: one piece more than there are `${`
abbrev pub pieces : Text → List Text
pieces [] = [] ∷ []
pieces (byte ∷ []) = (byte ∷ []) ∷ []
pieces (byte ∷ next ∷ text) =
    if opens byte next then [] ∷ pieces text else with_front byte (pieces (next ∷ text))

-- the piece before the first `${`
abbrev pub first_piece : List Text → Text
first_piece [] = []
first_piece (piece ∷ pieces) = piece

-- the pieces after a `${`
abbrev pub later_pieces : List Text → List Text
later_pieces [] = []
later_pieces (piece ∷ pieces) = pieces

-- ---- placeholders

-- `}`
abbrev pub closes : ℕ → Bool
closes byte = byte == 125

-- the name of a placeholder, after its `${`: what is before the `}`
abbrev pub name_in : Text → Text
name_in piece = before_first closes piece

-- `header:` and the name of a header
abbrev pub header_prefix : Text
header_prefix = codes "header:"

abbrev pub names_header : Text → Bool
names_header name = starts_with nat_eq name header_prefix && is_token (drop 7 name)

-- the other names
abbrev pub plain_names : List Text
plain_names = codes "status" ∷ codes "type" ∷ codes "url" ∷ codes "body" ∷ []

-- the name is that of a part of the last result
abbrev pub is_name : Text → Bool
is_name name = list_any (λ plain. bytes_eq plain name) plain_names || names_header name

-- a piece begins with a name and `}`
abbrev pub begins_with_name : Text → Bool
begins_with_name piece = is_some (position closes piece) && is_name (name_in piece)

-- each `${` begins a placeholder
abbrev pub is_template : Text → Bool
is_template text = list_all begins_with_name (later_pieces (pieces text))

-- ---- what a template comes to

-- a piece after a `${`: the value of its name, and what follows the `}`
abbrev pub placed : (Text → Text) → Text → Text
placed value piece = value (name_in piece) ++ after_first closes piece

-- the text with each placeholder replaced by the value of its name
abbrev pub filled : (Text → Text) → Text → Text
filled value text = first_piece (pieces text) ++ flat_map (placed value) (later_pieces (pieces text))
