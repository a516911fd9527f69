-- What a word in decimal is read as (this project's own).
use Rattle.std.specs.Prelude.{ℕ, ◌==◌, ◌&&◌, ◌||◌, not, nat_le, Bool, false, [], ◌∷◌, length, Option, Some, None}
use Rattle.std.specs.Prelude.{if◌then◌else◌}
use Rattle.std.specs.Str.Parse.{digits_value}
use Rattle.value_text.specs.Texts.{Text}
use Rattle.value_text.specs.Ascii.{digit_zero}
use Rattle.value_text.specs.Digits.{is_digits}

abbrev pub begins_with_zero : Text → Bool
begins_with_zero [] = false
begins_with_zero (byte ∷ text) = byte == digit_zero

-- a decimal number of 64 bits, without a leading zero
abbrev pub is_number : Text → Bool
is_number word =
    is_digits word && (length word == 1 || not (begins_with_zero word))
    && nat_le (digits_value 10 word) 18446744073709551615

-- the number that a word is, up to this one
abbrev pub number_up_to : ℕ → Text → Option ℕ
number_up_to most word =
    if is_number word && nat_le (digits_value 10 word) most then Some (digits_value 10 word) else None
