-- The words of the program.
use Rattle.std.specs.Prelude.{ℕ, ◌≤◌, ◌==◌, ◌&&◌, Bool, not, false, nat_le, List, [], ◌∷◌, codes, bytes_eq}
use Rattle.std.specs.Prelude.{Option, Some, None, option_map, if◌then◌else◌}
use Rattle.std.specs.Str.Parse.{digits_value}
use Rattle.value_text.specs.Texts.{Text}
use Rattle.value_text.specs.Digits.{is_digits}
use Rattle.program_fetchplay.specs.declared.words.Subcommand.{Subcommand}
use Rattle.program_fetchplay.specs.declared.words.Subcommand.TheVariants.{Gen, Net, Play}

abbrev pub begins_with_zero : Text → Bool
begins_with_zero [] = false
begins_with_zero (first ∷ text) = first == 48

-- a decimal number from 1 to 64, without a sign and without a leading zero
abbrev pub is_count : Text → Bool
is_count text =
    is_digits text && not (begins_with_zero text) && nat_le 1 (digits_value 10 text)
    && nat_le (digits_value 10 text) 64

abbrev pub count_of : Text → Option ℕ
count_of text = if is_count text then Some (digits_value 10 text) else None

-- the number is one of those
abbrev pub IsBounded : Subcommand → Type 0
IsBounded Play = Unit {0}
IsBounded Net = Unit {0}
IsBounded (Gen count) = (1 ≤ count) × (count ≤ 64)

-- what the words ask for, where they are accepted: `play`, `net`, or `gen` and a number of documents
abbrev pub subcommand_of : List Text → Option Subcommand
subcommand_of [] = None
subcommand_of (word ∷ []) =
    if bytes_eq word (codes "play") then Some Play else if bytes_eq word (codes "net") then Some Net else None
subcommand_of (word ∷ count ∷ []) = if bytes_eq word (codes "gen") then option_map Gen (count_of count) else None
subcommand_of (word ∷ count ∷ other ∷ words) = None
