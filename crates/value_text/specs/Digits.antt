-- Numbers in decimal digits, as of Access-Control-Max-Age and Content-Length.
use Rattle.std.specs.Prelude.{ℕ, Bool, ◌==◌, ◌&&◌, not, min, nat_le, length, Option, Some, None, if◌then◌else◌}
use Rattle.std.specs.List.{list_all}
use Rattle.std.specs.Char.{is_ascii_digit}
use Rattle.std.specs.Str.Parse.{digits_value}
use Rattle.value_text.specs.Texts.{Text}

-- one digit or more
abbrev pub is_digits : Text → Bool
is_digits text = not (length text == 0) && list_all is_ascii_digit text

-- the number that the digits write, or the cap where that is less; none where they are not digits
abbrev pub capped_digits : Text → ℕ → Option ℕ
capped_digits text cap = if is_digits text then Some (min (digits_value 10 text) cap) else None

-- the text is digits that write this number
abbrev pub writes : ℕ → Text → Bool
writes number text = is_digits text && digits_value 10 text == number

-- the number that the digits write is at most that of the others
abbrev pub digits_at_most : Text → Text → Bool
digits_at_most digits most = nat_le (digits_value 10 digits) (digits_value 10 most)
