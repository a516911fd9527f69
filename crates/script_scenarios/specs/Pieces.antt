-- The pieces of a text, one after another.
use Rattle.std.specs.Prelude.{List, [], ◌∷◌, Option, Some, None}
use Rattle.value_text.specs.Texts.{Text}
use Rattle.script_scenarios.specs.Templates.{pieces}

-- the pieces of the text after a piece, where there is one
abbrev pub pieces_behind : Option Text → List Text
pieces_behind None = []
pieces_behind (Some rest) = pieces rest

-- a piece, and the pieces of the text after it
abbrev pub piece_and : Text → Option Text → List Text
piece_and piece rest = piece ∷ pieces_behind rest
