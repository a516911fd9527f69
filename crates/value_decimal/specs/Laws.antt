-- A number's decimal is read back, and only that (this project's own).
use Rattle.std.specs.Prelude.{◌≡◌, ◌≤◌, ◌<◌, ◌^◌, ℕ, Some, decimal}
use Rattle.value_text.specs.Texts.{Text}
use Rattle.value_decimal.specs.Decimals.{number_up_to}

-- the decimal of each number of 64 bits, up to this one, is read as it
abbrev pub ReadsDecimals : Type 0
ReadsDecimals = (most number : ℕ) → number ≤ most → number < 2 ^ 64 → number_up_to most (decimal number) ≡ Some number

-- The word is the decimal of a number of 64 bits, up to this one.
pub record Writes (most : ℕ) (word : Text) (number : ℕ) : Type 0 where
  pub text : decimal number ≡ word
  pub few : number ≤ most
  pub small : number < 2 ^ 64

-- and what is read as a number is its decimal
abbrev pub ReadsOnlyDecimals : Type 0
ReadsOnlyDecimals =
    (most : ℕ) (word : Text) (number : ℕ) → number_up_to most word ≡ Some number → Writes most word number
