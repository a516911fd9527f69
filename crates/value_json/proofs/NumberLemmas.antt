-- How the value of a number follows from its sign.
use Rattle.std.proofs.Common.{◌≡◌, ℕ, List, drop, get_or, Bool, true, false, ◌==◌, Option, Some, None, refl}
use Rattle.std.specs.Prelude.{option_and_then, if◌then◌else◌, ◌&&◌, ◌^◌, nat_lt, nat_le}
use Rattle.std.specs.Float.{binary64, float_is_finite}
use Rattle.fast_float.specs.Text.{Parts, scan, nearest, digits_of, with_sign}
use Rattle.serde_json.specs.Data.{Num, negative, float}
use Rattle.serde_json.specs.Find.{as_u64}
use Rattle.serde_json.specs.Read.{number_of, number_from, float_of, is_integer}

pub with-minus : (s : List ℕ) → (get_or s 0 0 == 45) ≡ true → number_of s ≡ number_from true (scan (drop 1 s))
unfolding number_of
with-minus s is = rw is

pub without-minus : (s : List ℕ) → (get_or s 0 0 == 45) ≡ false → number_of s ≡ number_from false (scan s)
unfolding number_of
without-minus s is = rw is

-- one of two numbers, neither of which is whole and without a sign
neither : (b : Bool) (one other : Option Num) → option_and_then as_u64 one ≡ None → option_and_then as_u64 other ≡ None
    → option_and_then as_u64 (if b then one else other) ≡ None
neither true one other first second = first
neither false one other first second = second

pub none-below : (p : Parts) → option_and_then as_u64 (number_from true p) ≡ None
none-below p =
    let near = nearest binary64 true p in
    neither (is_integer p && nat_lt 0 (digits_of p) && nat_le (digits_of p) (2 ^ 63))
    (Some (negative (with_sign true (digits_of p)))) (float_of true p) refl
    (neither (float_is_finite near) (Some (float near)) None refl refl)
