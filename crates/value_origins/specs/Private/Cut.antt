-- A name that is cut at its last dot.
use Rattle.std.specs.Prelude.{◌≡◌, [], ◌∷◌, ◌++◌}
use Rattle.value_origins.specs.Names.{labels}
use Rattle.value_text.specs.Texts.{Text}
use Rattle.value_text.specs.Ascii.{dot}

-- what is after the last dot is the last label
pub record IsCutAtLastDot (name front last : Text) : Type 0 where
  pub parts : name ≡ front ++ dot ∷ last
  pub labels_are : labels name ≡ labels front ++ last ∷ []
