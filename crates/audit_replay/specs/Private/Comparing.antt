-- How far a text was compared with another.
use Rattle.std.specs.Prelude.{◌≡◌, ◌≢◌, ℕ, suc, ◌<◌, ◌≤◌, ◌==◌, if◌then◌else◌, [], ◌∷◌, ◌++◌, take, length}
use Rattle.std.specs.Prelude.{Option, Some, None, IfSome, IsSome}
use Rattle.std.specs.List.{slice_get}
use Rattle.std.specs.Option.{option_to_list}
use Rattle.value_text.specs.Texts.{Text}

-- The texts are equal up to here, and there the first ends, or another byte follows in it.
pub record AreSameFront (piece rest : Text) (count : ℕ) : Type 0 where
  pub within : count ≤ length piece
  pub behind : count ≤ length rest
  pub front : take count piece ≡ take count rest
  pub differs : count < length piece → slice_get piece count ≢ slice_get rest count

-- So many bytes were equal, and then came another, or not yet. After it no byte was taken, and each try failed.
pub record IsComparing (expected : Text) (at : ℕ) (found : Option ℕ) (faults : ℕ) : Type 0 where
  pub within : at ≤ length expected
  pub other : IfSome found (λ byte. slice_get expected at ≢ Some byte)
  pub failed : 0 < faults → IsSome found

-- what was taken
abbrev pub taken : Text → ℕ → Option ℕ → Text
taken expected at found = take at expected ++ option_to_list found

-- where what was taken differs from a text of so many bytes
abbrev pub difference : ℕ → ℕ → Option ℕ → Option ℕ
difference size at None = if at == size then None else Some at
difference size at (Some byte) = Some at

-- The text that is compared with, how much of what was taken is equal to it, the byte that is not, and the failures.
pub record Compared : Type 0 where
  pub expected : Text
  pub at : ℕ
  pub found : Option ℕ
  pub faults : ℕ

abbrev pub taken_of : Compared → Text
taken_of sink = taken sink.expected sink.at sink.found

-- a text as a list that is a front of no other such list
abbrev pub sealed : Text → Text
sealed [] = 0 ∷ []
sealed (byte ∷ text) = suc byte ∷ sealed text

-- What a sink tells: first which text it compares with, so that a call that is lent it cannot change that, and then
-- what it has taken.
abbrev pub told_of : Compared → Text
told_of sink = sealed sink.expected ++ taken_of sink

abbrev pub difference_of : Compared → Option ℕ
difference_of sink = difference (length sink.expected) sink.at sink.found
