-- Digits that are compared by their numbers.
use Rattle.std.specs.Prelude.{◌==◌, [], ◌∷◌, if◌then◌else◌}
use Rattle.value_text.specs.Texts.{Text}
use Rattle.value_text.specs.Ascii.{digit_zero}

-- the digits without the zeros in front
abbrev pub without_zeros : Text → Text
without_zeros [] = []
without_zeros (digit ∷ digits) = if digit == digit_zero then without_zeros digits else digit ∷ digits
