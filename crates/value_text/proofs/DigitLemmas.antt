-- One digit more.
use Rattle.std.proofs.Common.{◌≡◌, ◌<◌, ◌+◌, ◌-◌, ◌*◌, ◌^◌, ℕ, List, length, take, min, true, get_or, refl, arith}
use Rattle.std.proofs.lemmas.Grind.{common_steps}
use Rattle.std.proofs.lemmas.Int.Digits.{digits_value_more}
use Rattle.std.proofs.lemmas.List.Folds.{list_all_more}
use Rattle.std.specs.Char.{digit_value, is_ascii_digit}
use Rattle.std.specs.List.{list_all}
use Rattle.std.specs.Str.Parse.{digits_value}

pub all-digits-more : (text : List ℕ) (i : ℕ) → i < length text → list_all is_ascii_digit (take i text) ≡ true
    → is_ascii_digit (get_or text i 0) ≡ true → list_all is_ascii_digit (take (i + 1) text) ≡ true
all-digits-more text i below before here = rw (list_all_more is_ascii_digit text i 0 below, before, here) refl

-- the value of a digit
value-digit : (byte : ℕ) → is_ascii_digit byte ≡ true → digit_value byte ≡ byte - 48
value-digit byte digit = grind (arith, common_steps)

-- a cap on the way is a cap at the end
cap-again : (n digit most cap : ℕ) → cap < most → min (min (min (min n cap * 10) (most - 1) + digit) (most - 1)) cap
    ≡ min (n * 10 + digit) cap
cap-again n digit most cap below = omega arith

pub capped-more : (text : List ℕ) (i cap value next : ℕ) → i < length text → is_ascii_digit (get_or text i 0) ≡ true
    → cap < 2 ^ 64 → value ≡ min (digits_value 10 (take i text)) cap
    → next ≡ min (min (min (value * 10) (2 ^ 64 - 1) + (get_or text i 0 - 48)) (2 ^ 64 - 1)) cap → next
    ≡ min (digits_value 10 (take (i + 1) text)) cap
capped-more text i cap value next below digit fits e f =
    rw (
      f,
      digits_value_more 10 text i below,
      value-digit (get_or text i 0) digit,
      e,
    ) (cap-again (digits_value 10 (take i text)) (get_or text i 0 - 48) (2 ^ 64) cap fits)
