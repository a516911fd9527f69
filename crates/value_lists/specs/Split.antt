-- "get, decode, and split": the pieces of the values of a name (Fetch, section 2.2.2).
use Rattle.std.specs.Prelude.{List, [], ◌∷◌, ◌==◌, map, Option, option_map, if◌then◌else◌}
use Rattle.value_text.specs.Texts.{Text}
use Rattle.value_text.specs.Ascii.{backslash, comma, quotation_mark}
use Rattle.value_text.specs.Pieces.{with_front}
use Rattle.value_text.specs.Trims.{tab_or_space, trimmed}
use Rattle.value_headers.specs.Headers.{combined}
use Rattle.value_headers.specs.declared.headers.Header.{Header}

abbrev mutual
  -- the pieces of a text: what is between its commas, where a comma in an HTTP quoted string
  -- does not count; the quoted strings are kept as they are written
  pub pieces : Text → List Text
  pieces [] = [] ∷ []
  pieces (byte ∷ text) =
      if byte == comma then [] ∷ pieces text
      else if byte == quotation_mark then with_front byte (in_quoted_string text)
      else with_front byte (pieces text)

  -- the same from within an HTTP quoted string, which goes to its closing quote, or else to the end
  pub in_quoted_string : Text → List Text
  in_quoted_string [] = [] ∷ []
  in_quoted_string (byte ∷ text) =
      if byte == quotation_mark then with_front byte (pieces text)
      else if byte == backslash then with_front byte (behind_backslash text)
      else with_front byte (in_quoted_string text)

  -- the same right after a backslash in it: the next byte is part of the piece, whatever it is
  pub behind_backslash : Text → List Text
  behind_backslash [] = [] ∷ []
  behind_backslash (byte ∷ text) = with_front byte (in_quoted_string text)

-- a value split: its pieces without tabs and spaces around them
abbrev pub split : Text → List Text
split value = map (trimmed tab_or_space) (pieces value)

-- "get, decode, and split" of a name: all its values, joined and split; nothing where the list does
-- not contain it
abbrev pub split_values : Text → List Header → Option (List Text)
split_values name headers = option_map split (combined name headers)
