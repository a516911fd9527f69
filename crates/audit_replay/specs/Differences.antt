-- Where two texts differ (this project's own).
use Rattle.std.specs.Prelude.{◌≡◌, ◌≢◌, ℕ, take, Option, Some, None}
use Rattle.std.specs.List.{slice_get}
use Rattle.value_text.specs.Texts.{Text}

-- At this offset two texts have another byte, or one ends there and the other does not; before it they are equal.
pub record DifferAt (one other : Text) (offset : ℕ) : Type 0 where
  pub front : take offset one ≡ take offset other
  pub differs : slice_get one offset ≢ slice_get other offset

-- the texts are equal, or differ first at this offset
abbrev pub AreCompared : Text → Text → Option ℕ → Type 0
AreCompared one other None = one ≡ other
AreCompared one other (Some offset) = DifferAt one other offset
