-- The words of the program: an address, and how many connections are served (this project's own).
use Rattle.std.specs.Prelude.{ℕ, ◌==◌, ◌&&◌, Bool, false, not, nat_le, List, [], ◌∷◌, String, map, string_bytes}
use Rattle.std.specs.Prelude.{Option, Some, None, option_map, if◌then◌else◌}
use Rattle.std.specs.Global.{Global}
use Rattle.std.specs.List.{list_all}
use Rattle.std.specs.Str.Parse.{digits_value}
use Rattle.value_text.specs.Texts.{Text}
use Rattle.value_text.specs.Ascii.{digit_zero, hyphen}
use Rattle.value_text.specs.Digits.{is_digits}
use Rattle.server_words.specs.declared.words.Task.{Task}

-- the texts of the words
abbrev pub texts : List (String Global) → List Text
texts words = map string_bytes words

-- the word is not empty and does not begin with `-`
abbrev pub is_text : Text → Bool
is_text [] = false
is_text (byte ∷ word) = not (byte == hyphen)

-- each of the words is such a one
abbrev pub are_texts : List Text → Bool
are_texts = list_all is_text

-- the text begins with `0`
abbrev pub begins_with_zero : Text → Bool
begins_with_zero [] = false
begins_with_zero (byte ∷ text) = byte == digit_zero

-- how many connections are served at most
abbrev pub most_served : ℕ
most_served = 1024

-- a decimal number from 1 to 1,024, without a sign and without a leading zero
abbrev pub is_count : Text → Bool
is_count text =
    is_digits text && not (begins_with_zero text) && nat_le 1 (digits_value 10 text)
    && nat_le (digits_value 10 text) most_served

-- the number, where the text is such a one
abbrev pub count_of : Text → Option ℕ
count_of text = if is_count text then Some (digits_value 10 text) else None

-- what the words ask for, where they are accepted: they are two texts, and the second is such a number
abbrev pub task_of : List Text → Option Task
task_of (address ∷ number ∷ []) =
    if is_text address && is_text number
    then option_map (λ count. record { address = address; count = count }) (count_of number) else None
task_of _ = None
