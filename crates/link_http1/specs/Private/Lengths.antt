-- The value that most heads tell their length by, and the digits that all texts of a list are compared with.
use Rattle.std.specs.Prelude.{◌==◌, List, [], ◌∷◌, Option, Some, None, if◌then◌else◌}
use Rattle.value_text.specs.Texts.{Text}
use Rattle.value_text.specs.Ascii.{digit_zero}
use Rattle.value_headers.specs.Headers.{is_named}
use Rattle.value_headers.specs.declared.headers.Header.{Header}

-- the value of the first header of that name
abbrev pub first_value : Text → List Header → Option Text
first_value name [] = None
first_value name (header ∷ headers) = if is_named name header then Some header.value else first_value name headers

-- digits without the zeros in front, down to one digit
abbrev pub shortened : Text → Text
shortened [] = []
shortened (digit ∷ []) = digit ∷ []
shortened (digit ∷ (next ∷ digits)) = if digit == digit_zero then shortened (next ∷ digits) else digit ∷ (next ∷ digits)
