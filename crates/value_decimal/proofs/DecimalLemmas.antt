-- Words are read as the numbers that they write.
use Rattle.std.proofs.Common.{◌≡◌, ◌≤◌, ◌<◌, ◌^◌, ℕ, suc, zero, Bool, true, List, [], ◌∷◌, length, get_or}
use Rattle.std.proofs.Common.{refl, ap, sym, ◌∙◌, arith, Some, ◌⊎◌}
use Rattle.std.proofs.lemmas.Bool.{and_from, and_parts, le-leb, leb-true}
use Rattle.std.proofs.lemmas.Bool.Decides.{nat_tests}
use Rattle.std.proofs.lemmas.Fmt.{decimal-digits_value, decimal_nonempty, digits_decimal, digits_value-decimal}
use Rattle.std.proofs.lemmas.Fmt.{decimal_digit, first_decimal}
use Rattle.std.proofs.lemmas.Str.Parse.{IsDigitsTest, IsNumeralModel, numerals_by_value}
use Rattle.std.specs.Prelude.{◌==◌, ◌&&◌, ◌||◌, not, nat_le, decimal}
use Rattle.std.specs.Char.{is_ascii_digit}
use Rattle.std.specs.Int.{IsInRange}
use Rattle.std.specs.List.{list_all}
use Rattle.std.specs.Str.Parse.{digits_value}
use Rattle.value_lemmas.proofs.Options.{if-from, if-parts}
use Rattle.value_text.specs.Digits.{is_digits}
use Rattle.value_decimal.specs.Decimals.{begins_with_zero, is_number}
use Rattle.value_decimal.specs.Laws.{ReadsDecimals, ReadsOnlyDecimals}

-- ---- numbers

abbrev AreDigits : List ℕ → Type 0
AreDigits text = list_all is_ascii_digit text ≡ true

in-range : (byte : ℕ) → is_ascii_digit byte ≡ true → IsInRange 48 57 byte
in-range byte e = grind (arith, nat_tests)

is-in-range : (byte : ℕ) → IsInRange 48 57 byte → is_ascii_digit byte ≡ true
is-in-range byte e = grind (arith, nat_tests)

digits-test : IsDigitsTest AreDigits
digits-test = record {
  empty = refl;
  parts = λ byte text e. (
    in-range byte (and_parts (is_ascii_digit byte) (list_all is_ascii_digit text) e).0,
    (and_parts (is_ascii_digit byte) (list_all is_ascii_digit text) e).1,
  );
  more = λ byte text in_range e. and_from (is_ascii_digit byte) (list_all is_ascii_digit text)
      (is-in-range byte in_range) e;
}

model : IsNumeralModel AreDigits (digits_value 10)
model = numerals_by_value AreDigits digits-test

-- the tests of a word: it has no leading zero, and its number is of 64 bits
abbrev is_plain : List ℕ → Bool
is_plain word = length word == 1 || not (begins_with_zero word)

abbrev is_small : List ℕ → Bool
is_small word = nat_le (digits_value 10 word) 18446744073709551615

zero-alone : (word : List ℕ) → is_plain word ≡ true → 0 < length word → get_or word 0 0 ≡ 48 → length word ≡ 1
zero-alone [] e some starts = absurd (omega (arith, some))
zero-alone (byte ∷ word) e some starts = grind (arith, nat_tests)

filled : (word : List ℕ) → not (length word == 0) ≡ true → 0 < length word
filled word e = grind (arith, nat_tests)

number-text : (word : List ℕ) → is_number word ≡ true
    → (decimal (digits_value 10 word) ≡ word) × (digits_value 10 word < 2 ^ 64)
number-text word e =
    let is = and_parts (is_digits word && is_plain word) (is_small word) e in
    let front = and_parts (is_digits word) (is_plain word) is.0 in
    let digits = and_parts (not (length word == 0)) (list_all is_ascii_digit word) front.0 in
    let some = filled word digits.0 in
    let most : digits_value 10 word ≤ 18446744073709551615 =
    leb-true (digits_value 10 word) 18446744073709551615 is.1 in
    let below : digits_value 10 word < 2 ^ 64 = omega (arith, most) in
    (decimal-digits_value model word digits.1 some (zero-alone word front.1 some) below, below)

pub number-writes : ReadsOnlyDecimals
number-writes most word n e =
    let is = if-parts (is_number word && nat_le (digits_value 10 word) most) (Some (digits_value 10 word)) n e in
    let value : digits_value 10 word ≡ n = cc in
    let fits = and_parts (is_number word) (nat_le (digits_value 10 word) most) is.0 in
    let text = number-text word fits.0 in
    let few : digits_value 10 word ≤ most = leb-true (digits_value 10 word) most fits.1 in
    record {
      text = ap decimal (sym value) ∙ text.0;
      few = omega (arith, value, few);
      small = omega (arith, value, text.1);
    }

digits-of : (n : ℕ) → n < 2 ^ 64 → AreDigits (decimal n)
digits-of n small = digits_decimal model n small

plain-start : (n : ℕ) → n < 2 ^ 64 → is_plain (decimal n) ≡ true
plain-start zero small = rw (decimal_digit 0 (omega arith)) refl
plain-start (suc n) small = starts (decimal (suc n)) (first_decimal (suc n) (omega arith) small)
  where
    starts : (text : List ℕ) → 48 < get_or text 0 0 → is_plain text ≡ true
    starts [] e = absurd (omega (arith, e))
    starts (byte ∷ text) e = grind (arith, nat_tests)

some-length : (text : List ℕ) → 0 < length text → not (length text == 0) ≡ true
some-length text e = grind (arith, nat_tests)

pub number-read : ReadsDecimals
number-read most n few small =
    let text = decimal n in
    let value : digits_value 10 text ≡ n = digits_value-decimal model n small in
    let digits = and_from (not (length text == 0)) (list_all is_ascii_digit text)
    (some-length text (decimal_nonempty n small)) (digits-of n small) in
    let plain = and_from (is_digits text) (is_plain text) digits (plain-start n small) in
    let is = and_from (is_digits text && is_plain text) (is_small text) plain
    (le-leb (digits_value 10 text) 18446744073709551615 (omega (arith, value, small))) in
    if-from (is_number text && nat_le (digits_value 10 text) most) (Some (digits_value 10 text)) n
    (and_from (is_number text) (nat_le (digits_value 10 text) most) is
    (le-leb (digits_value 10 text) most (omega (arith, value, few)))) (ap Some value)

-- a number has digits alone
abbrev pub lacks : ℕ → List ℕ → Bool
lacks byte text = list_all (λ other. not (other == byte)) text

digits-lack : (byte : ℕ) → (byte < 48) ⊎ (57 < byte) → (text : List ℕ) → AreDigits text → lacks byte text ≡ true
digits-lack byte other [] e = refl
digits-lack byte other (digit ∷ text) e =
    let in_range = in-range digit (and_parts (is_ascii_digit digit) (list_all is_ascii_digit text) e).0 in
    let rest = digits-lack byte other text (and_parts (is_ascii_digit digit) (list_all is_ascii_digit text) e).1 in
    and_from (not (digit == byte)) (lacks byte text) (grind (arith, nat_tests, in_range, other)) rest

pub number-lacks : (byte : ℕ) → (byte < 48) ⊎ (57 < byte) → (n : ℕ) → n < 2 ^ 64 → lacks byte (decimal n) ≡ true
number-lacks byte other n small = digits-lack byte other (decimal n) (digits-of n small)
