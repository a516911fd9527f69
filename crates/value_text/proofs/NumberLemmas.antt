-- Numbers in decimal digits compare by how many digits they have after their leading zeros, and then by
-- these digits.
use Rattle.std.proofs.Common.{arith, inl, inr, ◌≡◌, ◌≤◌, ◌<◌, ◌+◌, ◌*◌, ◌-◌, ◌==◌, ◌&&◌, ◌||◌, ◌∷◌, [], ℕ, suc, List}
use Rattle.std.proofs.Common.{length, refl, subst, ◌∙◌, Bool, true, false, nat_le, nat_lt}
use Rattle.std.proofs.lemmas.Bool.Decides.{eqb_tells, leb_tells, nat_tests}
use Rattle.std.proofs.lemmas.Grind.{common_steps}
use Rattle.std.specs.Char.{digit_value, is_ascii_digit}
use Rattle.std.specs.Cmp.Lexicographic.{slice_cmp}
use Rattle.std.specs.List.{list_all}
use Rattle.std.specs.Ordering.{is_le, nat_cmp}
use Rattle.std.specs.Str.Parse.{digits_value, digits_value_after}
use Rattle.value_text.specs.Digits.{digits_at_most}
use Rattle.value_text.specs.Private.Zeros.{without_zeros}

abbrev are_digits : List ℕ → Bool
are_digits text = list_all is_ascii_digit text

-- the value of a digit
digit-value : (byte : ℕ) → is_ascii_digit byte ≡ true → (digit_value byte ≡ byte - 48) × (48 ≤ byte) × (byte ≤ 57)
digit-value byte digit = grind (arith, common_steps)

first-digit : (byte : ℕ) (text : List ℕ) → are_digits (byte ∷ text) ≡ true → is_ascii_digit byte ≡ true
first-digit byte text digits = grind (arith, common_steps)

later-digits : (byte : ℕ) (text : List ℕ) → are_digits (byte ∷ text) ≡ true → are_digits text ≡ true
later-digits byte text digits = grind (arith, common_steps)

-- more digits make no number less
value-grows : (n : ℕ) (text : List ℕ) → n ≤ digits_value_after 10 n text
value-grows n [] = omega arith
value-grows n (byte ∷ text) = omega (arith, value-grows (n * 10 + digit_value byte) text)

-- the smaller of two numbers stays smaller if no more digits follow it than follow the other
stays-less : (m n : ℕ) (a b : List ℕ) → m < n → length a ≤ length b → are_digits a ≡ true
    → digits_value_after 10 m a < digits_value_after 10 n b
stays-less m n [] b less within digits = omega (arith, value-grows n b)
stays-less m n (x ∷ a) [] less within digits = absurd (omega arith)
stays-less m n (x ∷ a) (y ∷ b) less within digits =
    let digit = digit-value x (first-digit x a digits) in
    stays-less (m * 10 + digit_value x) (n * 10 + digit_value y) a b (omega (arith, digit.0, digit.1, digit.2))
    (omega arith) (later-digits x a digits)

-- two numbers of as many digits compare as their digits do
compared : (m : ℕ) (a b : List ℕ) → length a ≡ length b → are_digits a ≡ true → are_digits b ≡ true
    → nat_le (digits_value_after 10 m a) (digits_value_after 10 m b) ≡ is_le (slice_cmp nat_cmp a b)
compared m [] [] same digits_a digits_b = grind (arith, nat_tests)
compared m [] (y ∷ b) same digits_a digits_b = absurd (omega arith)
compared m (x ∷ a) [] same digits_a digits_b = absurd (omega arith)
compared m (x ∷ a) (y ∷ b) same digits_a digits_b =
    let digit_x = digit-value x (first-digit x a digits_a) in
    let digit_y = digit-value y (first-digit y b digits_b) in
    let later_a = later-digits x a digits_a in
    let later_b = later-digits y b digits_b in
    let same_length : length a ≡ length b = omega arith in
    let m' : ℕ = m * 10 + digit_value x in
    let n' : ℕ = m * 10 + digit_value y in
    elim (leb_tells (suc x) y) [
      | inl less ↦
          let below = stays-less m' n' a b (omega (arith, less.1, digit_x.0, digit_x.1, digit_y.0, digit_y.1))
          (omega arith) later_a in
          rw less.0 (grind (arith, nat_tests, below))
      | inr no_less ↦
          elim (eqb_tells x y) [
            | inl equal ↦
                rw (no_less.0, equal.0, equal.1) (compared (m * 10 + digit_value y) a b same_length later_a later_b)
            | inr other ↦
                let below =
                stays-less n' m' b a (omega (
                  arith,
                  no_less.1,
                  other.1,
                  digit_x.0,
                  digit_x.1,
                  digit_y.0,
                  digit_y.1,
                )) (omega arith) later_b in
                rw (no_less.0, other.0) (grind (arith, nat_tests, below))
          ]
    ]

-- zeros in front count nothing
value-without_zeros : (text : List ℕ) → digits_value 10 (without_zeros text) ≡ digits_value 10 text
value-without_zeros [] = refl
value-without_zeros (byte ∷ text) =
    elim (eqb_tells byte 48) [
      | inl zero ↦ rw (zero.0, zero.1) (value-without_zeros text)
      | inr other ↦ rw other.0 refl
    ]

without_zeros-digits : (text : List ℕ) → are_digits text ≡ true → are_digits (without_zeros text) ≡ true
without_zeros-digits [] digits = refl
without_zeros-digits (byte ∷ text) digits = grind (arith, common_steps, without_zeros-digits text)

-- fewer digits than another number has after its leading zeros make a smaller number
fewer-digits : (a text : List ℕ) → are_digits a ≡ true → are_digits text ≡ true
    → length a < length (without_zeros text) → digits_value 10 a < digits_value 10 (without_zeros text)
fewer-digits a [] digits_a digits fewer = absurd (omega arith)
fewer-digits a (byte ∷ text) digits_a digits fewer =
    elim (eqb_tells byte 48) [
      | inl zero ↦
          let cut : without_zeros (byte ∷ text) ≡ without_zeros text = rw zero.0 refl in
          rw cut (fewer-digits a text digits_a (later-digits byte text digits)
          (subst (λ (l : List ℕ). length a < length l) cut fewer))
      | inr other ↦
          let whole : without_zeros (byte ∷ text) ≡ byte ∷ text = rw other.0 refl in
          let digit = digit-value byte (first-digit byte text digits) in
          let within : length a ≤ length text = omega (arith, subst (λ (l : List ℕ). length a < length l) whole fewer)
          in
          rw whole (stays-less 0 (0 * 10 + digit_value byte) a text (omega (arith, other.1, digit.0, digit.1)) within
          digits_a)
    ]

-- the three cases of two lengths
by-length : (m n : ℕ) (test shown : Bool) → (m < n → test ≡ true) → (m ≡ n → test ≡ shown) → (n < m → test ≡ false)
    → test ≡ (nat_lt m n || (m == n && shown))
by-length m n test shown less same more = grind (arith, nat_tests, less, same, more)

-- how two numbers compare
pub digits_at_most-compared : (start end : List ℕ) → are_digits start ≡ true → are_digits end ≡ true
    → digits_at_most start end
    ≡ (nat_lt (length (without_zeros start)) (length (without_zeros end))
    || (length (without_zeros start) == length (without_zeros end)
    && is_le (slice_cmp nat_cmp (without_zeros start) (without_zeros end))))
digits_at_most-compared start end digits_start digits_end =
    let a : List ℕ = without_zeros start in
    let b : List ℕ = without_zeros end in
    let digits_a : are_digits a ≡ true = without_zeros-digits start digits_start in
    let digits_b : are_digits b ≡ true = without_zeros-digits end digits_end in
    let shown : digits_at_most start end ≡ nat_le (digits_value 10 a) (digits_value 10 b) =
    rw (value-without_zeros start, value-without_zeros end) refl in
    shown
    ∙ by-length (length a) (length b) (nat_le (digits_value 10 a) (digits_value 10 b)) (is_le (slice_cmp nat_cmp a b))
    (λ less. let h = fewer-digits a end digits_a digits_end less in grind (arith, nat_tests, h))
    (λ same. compared 0 a b same digits_a digits_b)
    (λ more. let h = fewer-digits b start digits_b digits_start more in grind (arith, nat_tests, h))
