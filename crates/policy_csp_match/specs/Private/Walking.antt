-- Two paths walked through together, piece by piece.
use Rattle.std.specs.Prelude.{Bool, false, not, ◌&&◌, List, [], ◌∷◌, Option, Some, None}
use Rattle.value_text.specs.Texts.{Text}
use Rattle.policy_csp_match.specs.Paths.{pieces, same_piece}

-- the pieces of what is left of a path after a slash, where there is one
abbrev pub pieces_left : Option Text → List Text
pieces_left None = []
pieces_left (Some text) = pieces text

-- the pieces are the same, place by place, and then the URL has more of them, or has no more
abbrev pub walks : Bool → List Text → List Text → Bool
walks more [] [] = not more
walks more [] (url_piece ∷ url_parts) = more
walks more (piece ∷ parts) [] = false
walks more (piece ∷ parts) (url_piece ∷ url_parts) = same_piece piece url_piece && walks more parts url_parts
