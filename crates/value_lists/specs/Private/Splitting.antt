-- What a splitter of header values comes to: the pieces of all that it was fed, together with what follows.
use Rattle.std.specs.Prelude.{ℕ, List, [], ◌∷◌, ◌++◌, map, Option, Some, None}
use Rattle.value_text.specs.Texts.{Text}
use Rattle.value_text.specs.Pieces.{with_front}
use Rattle.value_text.specs.Trims.{tab_or_space, trimmed}
use Rattle.value_lists.specs.Split.{pieces, in_quoted_string, behind_backslash}
use Rattle.value_lists.specs.declared.split.Place.{Place}
use Rattle.value_lists.specs.declared.split.Place.TheVariants.{Outside, Quoted, Escaped}
use Rattle.value_lists.specs.declared.split.Splitter.{Splitter}

-- the pieces of the text that follows at a place
abbrev pub pieces_at : Place → Text → List Text
pieces_at Outside rest = pieces rest
pieces_at Quoted rest = in_quoted_string rest
pieces_at Escaped rest = behind_backslash rest

-- the same after a byte, which ends a piece or leads to a place
abbrev pub pieces_behind : ℕ → Option Place → Text → List Text
pieces_behind byte None rest = [] ∷ pieces rest
pieces_behind byte (Some place) rest = with_front byte (pieces_at place rest)

-- the pieces, the first of them with this text at its front
abbrev pub onto : Text → List Text → List Text
onto text [] = text ∷ []
onto text (piece ∷ pieces) = (text ++ piece) ∷ pieces

-- what the splitter comes to with the rest of the text
abbrev pub split_with : Splitter → Text → List Text
split_with splitter rest =
    splitter.pieces ++ map (trimmed tab_or_space) (onto splitter.piece.items (pieces_at splitter.place rest))
