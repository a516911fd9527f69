-- MIME types and their essences (MIME Sniffing, sections 4.1 and 4.4).
use Rattle.std.specs.Prelude.{Bool, false, ◌==◌, ◌&&◌, ◌∷◌, ◌++◌}
use Rattle.std.specs.Prelude.{Option, Some, None, option_map, if◌then◌else◌}
use Rattle.std.specs.List.{after_first, before_first}
use Rattle.std.specs.Str.{bytes_eq, str_to_ascii_lowercase}
use Rattle.value_text.specs.Texts.{Text}
use Rattle.value_text.specs.Tokens.{is_token}
use Rattle.value_text.specs.Trims.{http_whitespace, trimmed, trimmed_end}
use Rattle.value_text.specs.Ascii.{semicolon, slash}

-- the type: what is before the slash
abbrev pub type_of : Text → Text
type_of text = before_first (λ byte. byte == slash) text

-- the subtype: what is after the slash, up to a semicolon or the end, without whitespace at its end
abbrev pub subtype_of : Text → Text
subtype_of text =
    trimmed_end http_whitespace (before_first (λ byte. byte == semicolon) (after_first (λ byte. byte == slash) text))

-- the type, a slash and the subtype as they are written, where both are tokens
abbrev pub type_and_subtype : Text → Option Text
type_and_subtype text =
    if is_token (type_of text) && is_token (subtype_of text) then Some (type_of text ++ slash ∷ subtype_of text)
    else None

-- the type, a slash and the subtype of a value, which may have whitespace around it; none where it is no MIME type
abbrev pub written_essence : Text → Option Text
written_essence value = type_and_subtype (trimmed http_whitespace value)

-- the essence of a MIME type: its type, the slash and its subtype in lower case
abbrev pub essence_of_value : Text → Option Text
essence_of_value value = option_map str_to_ascii_lowercase (written_essence value)

-- there is a text, and it is this one
abbrev pub is_text : Text → Option Text → Bool
is_text text None = false
is_text text (Some found) = bytes_eq found text

-- the value is a MIME type with this essence
abbrev pub has_essence : Text → Text → Bool
has_essence value essence = is_text essence (essence_of_value value)
