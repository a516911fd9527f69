-- How many digits a number has in decimal.
use Rattle.std.proofs.Common.{◌≡◌, ℕ, ◌+◌, ◌*◌, ◌^◌, ◌<◌, ◌≤◌, zero, suc, [], ◌∷◌, length, ap, arith, length-append}
use Rattle.std.specs.Prelude.{◌/◌, ◌%◌, decimal}
use Rattle.std.proofs.Math.Nat.{one-le-pow, pow-suc}
use Rattle.std.proofs.lemmas.Fmt.{decimal_digit, decimal_nonempty, decimal_step, length-decimal-le}

-- at least as many as the power of ten that it reaches tells
least : (k n : ℕ) → 10 ^ k ≤ n → n < 2 ^ 64 → k < length (decimal n)
least zero n reached small = decimal_nonempty n small
least (suc k) n reached small =
    let ten : 10 ≤ n = omega (arith, reached, pow-suc 10 k, one-le-pow k 10 (omega arith)) in
    let less : 10 ^ k ≤ n / 10 = omega (arith, reached, pow-suc 10 k) in
    let more : k < length (decimal (n / 10)) = least k (n / 10) less (omega (arith, small)) in
    rw (decimal_step n ten small) (omega (arith, more, length-append (decimal (n / 10)) ((48 + n % 10) ∷ [])))

-- one more than the power of ten at or below it tells
pub digits_by_power : (k n : ℕ) → 10 ^ k ≤ n → n < 10 * 10 ^ k → n < 2 ^ 64 → length (decimal n) ≡ k + 1
digits_by_power k n reached below small =
    let most : length (decimal n) ≤ suc k =
    length-decimal-le (suc k) n (omega arith) (omega (arith, below, pow-suc 10 k)) small in
    omega (arith, most, least k n reached small)

-- zero has one
pub digits_of_none : (n : ℕ) → n ≡ 0 → length (decimal n) ≡ 1
digits_of_none n none = rw none (ap length (decimal_digit 0 (omega arith)))
