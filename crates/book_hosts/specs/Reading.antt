-- What the value of a Strict-Transport-Security field says, read from front to back (RFC 6797, section
-- 6.1): it is cut at its semicolons, and each piece is a directive or blank. That this is what the grammar
-- says is a law.
use Rattle.std.specs.Prelude.{◌≡◌, ◌↔◌, ℕ, ◌+◌, ◌≤◌, ◌==◌, Bool, false, List, [], ◌∷◌, ◌++◌, length, drop}
use Rattle.std.specs.Prelude.{Option, Some, None, option_and_then, option_map, if◌then◌else◌}
use Rattle.std.specs.List.{before_first, list_all, position}
use Rattle.std.specs.Str.{str_to_ascii_lowercase}
use Rattle.value_text.specs.Texts.{Text}
use Rattle.value_text.specs.Ascii.{backslash, equals_sign, quotation_mark, semicolon}
use Rattle.value_text.specs.Pieces.{with_front}
use Rattle.value_text.specs.Tokens.{is_token}
use Rattle.value_text.specs.Trims.{tab_or_space, trimmed}
use Rattle.book_hosts.specs.Field.{IsSts, greatest_age, has_twice, sts_of}
use Rattle.book_hosts.specs.Grammar.{is_blank}
use Rattle.book_hosts.specs.declared.directives.Directive.{Directive}
use Rattle.book_hosts.specs.declared.pieces.Place.{Place}
use Rattle.book_hosts.specs.declared.pieces.Place.TheVariants.{Outside, Quoted, Escaped}
use Rattle.book_hosts.specs.declared.sts.Sts.{Sts}

-- whether a byte at this place is a semicolon between two pieces
abbrev pub cuts : Place → ℕ → Bool
cuts Outside byte = byte == semicolon
cuts Quoted byte = false
cuts Escaped byte = false

-- the place after another byte: a quotation mark begins and ends a quoted string, in which a backslash
-- takes the next byte with it
abbrev pub next_place : Place → ℕ → Place
next_place Outside byte = if byte == quotation_mark then Quoted else Outside
next_place Quoted byte = if byte == quotation_mark then Outside else if byte == backslash then Escaped else Quoted
next_place Escaped byte = Quoted

-- the pieces of a text that begins at this place
abbrev pub pieces : Place → Text → List Text
pieces place [] = [] ∷ []
pieces place (byte ∷ text) =
    if cuts place byte then [] ∷ pieces Outside text else with_front byte (pieces (next_place place byte) text)

abbrev mutual
  -- the value of a quoted string, of what follows its first quotation mark: the next one ends it and the text
  pub unquoted : Text → Option Text
  unquoted [] = None
  unquoted (byte ∷ text) =
      if byte == quotation_mark then (if length text == 0 then Some [] else None)
      else if byte == backslash then behind_backslash text
      else option_map (λ value. byte ∷ value) (unquoted text)

  -- the same right after a backslash in it: the next byte is part of the value, whatever it is
  pub behind_backslash : Text → Option Text
  behind_backslash [] = None
  behind_backslash (byte ∷ text) = option_map (λ value. byte ∷ value) (unquoted text)

-- the value of a quoted string or a token
abbrev pub value_in : Text → Option Text
value_in [] = None
value_in (byte ∷ text) =
    if byte == quotation_mark then unquoted text
    else if is_token (byte ∷ text) then Some (byte ∷ text) else None

-- what comes after the first equals sign, where there is one
abbrev pub behind_equals : Text → Option Text
behind_equals text = option_map (λ index. drop (index + 1) text) (position (λ byte. byte == equals_sign) text)

-- a directive with this name in lower case and with this value
abbrev pub directive : Text → Option Text → Directive
directive name value = record { name = str_to_ascii_lowercase name; value = value }

-- a directive with this name, and with the value in this text if there is one
abbrev pub directive_with : Text → Option Text → Option Directive
directive_with name None = Some (directive name None)
directive_with name (Some text) =
    option_map (λ value. directive name (Some value)) (value_in (trimmed tab_or_space text))

-- such a directive, where the name is a token
abbrev pub directive_from : Text → Option Text → Option Directive
directive_from name written = if is_token name then directive_with name written else None

-- the text as a directive: its name is before the first equals sign, its value after it
abbrev pub directive_in : Text → Option Directive
directive_in text =
    directive_from (trimmed tab_or_space (before_first (λ byte. byte == equals_sign) text)) (behind_equals text)

-- the directives of a piece, none or one
abbrev pub piece_in : Text → Option (List Directive)
piece_in text = if list_all is_blank text then Some [] else option_map (λ found. found ∷ []) (directive_in text)

-- directives and the ones after them
abbrev pub with_more : Option (List Directive) → Option (List Directive) → Option (List Directive)
with_more None others = None
with_more (Some directives) None = None
with_more (Some directives) (Some others) = Some (directives ++ others)

-- the directives of all pieces
abbrev pub directives_in : List Text → Option (List Directive)
directives_in [] = Some []
directives_in (piece ∷ pieces) = with_more (piece_in piece) (directives_in pieces)

-- the directives of a field
abbrev pub directives_of : Text → Option (List Directive)
directives_of value = directives_in (pieces Outside value)

-- what directives say; no name may be there twice
abbrev pub said_once : List Directive → Option Sts
said_once directives = if has_twice directives then None else sts_of directives

-- what a field says
abbrev pub sts_in : Text → Option Sts
sts_in value = option_and_then said_once (directives_of value)

-- a field says this exactly where the grammar and the rules for its directives say so
abbrev pub ReadsTheGrammar : Type 0
ReadsTheGrammar = (value : Text) (sts : Sts) → (sts_in value ≡ Some sts) ↔ IsSts value sts

-- no field says an age that is greater than the greatest
abbrev pub AgesAreBounded : Type 0
AgesAreBounded = (value : Text) (sts : Sts) → sts_in value ≡ Some sts → sts.age ≤ greatest_age
