-- Texts that are cut in pieces.
use Rattle.std.specs.Prelude.{ℕ, List, [], ◌∷◌}
use Rattle.value_text.specs.Texts.{Text}

-- the pieces, the first of them with one byte more at its front
abbrev pub with_front : ℕ → List Text → List Text
with_front byte [] = (byte ∷ []) ∷ []
with_front byte (piece ∷ pieces) = (byte ∷ piece) ∷ pieces
