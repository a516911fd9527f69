-- "extract header list values" by the rule of the header's grammar (Fetch, section 2.2.2).
use Rattle.std.specs.Prelude.{List, [], ◌∷◌, ◌==◌, map, filter, if◌then◌else◌}
use Rattle.std.specs.List.{flat_map, list_all}
use Rattle.value_text.specs.Texts.{Text}
use Rattle.value_text.specs.Ascii.{comma}
use Rattle.value_text.specs.Digits.{is_digits}
use Rattle.value_text.specs.Pieces.{with_front}
use Rattle.value_text.specs.Tokens.{is_token}
use Rattle.value_text.specs.Trims.{tab_or_space, trimmed}
use Rattle.value_text.specs.Words.{is_filled}
use Rattle.value_headers.specs.Headers.{values_of}
use Rattle.value_headers.specs.declared.headers.Header.{Header}
use Rattle.value_lists.specs.declared.extract.Rule.{Rule}
use Rattle.value_lists.specs.declared.extract.Rule.TheVariants.{Tokens, Digits, Single}
use Rattle.value_lists.specs.declared.extract.Extracted.{Extracted}
use Rattle.value_lists.specs.declared.extract.Extracted.TheVariants.{Absent, Failure, Items}

-- what is between the commas of a text
abbrev pub between_commas : Text → List Text
between_commas [] = [] ∷ []
between_commas (byte ∷ text) =
    if byte == comma then [] ∷ between_commas text else with_front byte (between_commas text)

-- the items of a value: what is between its commas, trimmed, the empty ones skipped
abbrev pub items : Text → List Text
items value = filter is_filled (map (trimmed tab_or_space) (between_commas value))

-- a list of tokens, a failure where one of the items is no token
abbrev pub token_list : List Text → Extracted
token_list texts = if list_all is_token texts then Items texts else Failure

-- the values of a name, by a rule: by Tokens they are lists of tokens; by Digits and Single there is
-- one value, and by Digits it is one digit or more
abbrev pub extracted_of : Rule → List Text → Extracted
extracted_of rule [] = Absent
extracted_of Tokens values = token_list (flat_map items values)
extracted_of Digits (value ∷ []) = if is_digits value then Items (value ∷ []) else Failure
extracted_of Single (value ∷ []) = Items (value ∷ [])
extracted_of rule values = Failure

-- "extract header list values" of a name
abbrev pub extracted : Rule → Text → List Header → Extracted
extracted rule name headers = extracted_of rule (values_of name headers)
