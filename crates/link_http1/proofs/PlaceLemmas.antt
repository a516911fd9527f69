-- The places of a reader of chunks stay within their limits.
use Rattle.std.proofs.Common.{arith, inl, inr, ◌≡◌, ◌≢◌, ◌≤◌, ◌<◌, ◌+◌, ◌*◌, ◌^◌, ◌==◌, ℕ, refl, Bool, true, false}
use Rattle.std.proofs.Common.{nat_le, lit<, ◌||◌, if◌then◌else◌}
use Rattle.std.proofs.lemmas.Bool.{leb-false}
use Rattle.std.proofs.lemmas.Bool.Decides.{eqb_tells, nat_tests}
use Rattle.std.proofs.lemmas.Grind.{common_steps, pow_more}
use Rattle.std.proofs.Math.Nat.{pow-le-pow_right}
use Rattle.std.specs.Char.{digit_value, is_ascii_hexdigit}
use Rattle.link_http1.specs.declared.place.Place.{Place}
use Rattle.link_http1.specs.declared.place.Place.TheVariants.{Size, Blanks, Extension, LineEnd, Data, DataEnd, Trailers}
use Rattle.link_http1.specs.declared.place.Place.TheVariants.{Trailer, TrailerEnd, LastEnd}
use Rattle.link_http1.specs.declared.place.Turn.{Turn}
use Rattle.link_http1.specs.declared.place.Turn.TheVariants.{To}
use Rattle.link_http1.specs.Private.Places.{IsLive, turn, in_size, in_extension, behind_digits, behind_line, at_trailer}
use Rattle.link_http1.specs.Private.Places.{on_line_feed}

pub digit-most : (byte : ℕ) → is_ascii_hexdigit byte ≡ true → digit_value byte ≤ 15
digit-most byte digit = grind (arith, common_steps)

-- one digit more fits 64 bits
pub size-fits : (digits value : ℕ) → digits ≤ 16 → digits ≢ 16 → value < 16 ^ digits → value * 16 + 15 < 2 ^ 64
size-fits digits value most fewer within =
    let below : digits ≤ 15 = omega (arith, most, fewer) in
    let power : 16 ^ digits ≤ 16 ^ 15 = pow-le-pow_right (lit< tt) below in
    omega (arith, within, power)

size-live : (digits value byte : ℕ) → digits ≤ 16 → value < 16 ^ digits → is_ascii_hexdigit byte ≡ true → digits ≢ 16
    → IsLive (Size (digits + 1) (value * 16 + digit_value byte))
size-live digits value byte most within digit fewer =
    let power : 16 ^ (digits + 1) ≡ 16 ^ digits * 16 = pow_more 16 digits in
    (omega (arith, most, fewer), omega (arith, within, power, digit-most byte digit))

-- what a turn leads to is within the limits
abbrev pub IsTurnLive : Turn → Type 0
IsTurnLive (To place) = IsLive place
IsTurnLive _ = Unit {0}

-- what holds of both sides of a choice holds of it
pub choice : {A : Type 0} (P : A → Type 0) (test : Bool) (x y : A) → (test ≡ true → P x) → (test ≡ false → P y)
    → P (if test then x else y)
choice P true x y holds fails = holds refl
choice P false x y holds fails = fails refl

pub differs : (m n : ℕ) → (m == n) ≡ false → m ≢ n
differs m n test = elim (eqb_tells m n) [
  | inl same ↦ absurd (grind (arith, nat_tests, test, same.0))
  | inr other ↦
      other.1
]

behind_digits-live : (size line byte : ℕ) → IsTurnLive (behind_digits size line byte)
behind_digits-live size line byte =
    choice IsTurnLive (byte == 13) _ _ (λ _. tt) (λ _.
    choice IsTurnLive (nat_le 4094 line) _ _ (λ _. tt) (λ room.
    let within : line + 1 ≤ 4094 = omega (arith, leb-false 4094 line room) in
    choice IsTurnLive (byte == 9 || byte == 32) _ _ (λ _. within)
    (λ _. choice IsTurnLive (byte == 59) _ _ (λ _. within) (λ _. tt))))

in_size-live : (digits value byte : ℕ) → IsLive (Size digits value) → IsTurnLive (in_size digits value byte)
in_size-live digits value byte live =
    choice IsTurnLive (is_ascii_hexdigit byte) _ _
    (λ digit. choice IsTurnLive (digits == 16) _ _ (λ _. tt)
    (λ fewer. size-live digits value byte live.0 live.1 digit (differs digits 16 fewer)))
    (λ _. choice IsTurnLive (digits == 0) _ _ (λ _. tt) (λ _. behind_digits-live value digits byte))

in_extension-live : (size line byte : ℕ) → IsTurnLive (in_extension size line byte)
in_extension-live size line byte =
    choice IsTurnLive (byte == 13) _ _ (λ _. tt) (λ _. choice IsTurnLive (byte == 10) _ _ (λ _. tt) (λ _.
    choice IsTurnLive (nat_le 4094 line) _ _ (λ _. tt) (λ room. omega (arith, leb-false 4094 line room))))

at_trailer-live : (byte bytes : ℕ) (end : Place) → IsLive end → IsTurnLive (at_trailer byte bytes end)
at_trailer-live byte bytes end live =
    choice IsTurnLive (byte == 13) _ _ (λ _. live) (λ _. choice IsTurnLive (byte == 10) _ _ (λ _. tt) (λ _.
    choice IsTurnLive (nat_le 8188 bytes) _ _ (λ _. tt) (λ room. omega (arith, leb-false 8188 bytes room))))

behind_line-live : (size : ℕ) → IsLive (behind_line size)
behind_line-live size = choice IsLive (size == 0) _ _ (λ _. omega arith) (λ _. tt)

line_feed-live : (byte : ℕ) (to : Turn) → IsTurnLive to → IsTurnLive (on_line_feed byte to)
line_feed-live byte to live = choice IsTurnLive (byte == 10) _ _ (λ _. live) (λ _. tt)

pub turn-live : (place : Place) (byte : ℕ) → IsLive place → IsTurnLive (turn place byte)
turn-live (Size digits value) byte live = in_size-live digits value byte live
turn-live (Blanks size line) byte live = behind_digits-live size line byte
turn-live (Extension size line) byte live = in_extension-live size line byte
turn-live (LineEnd size) byte live = line_feed-live byte (To (behind_line size)) (behind_line-live size)
turn-live (Data left) byte live = choice IsTurnLive (byte == 13) (To DataEnd) _ (λ _. tt) (λ _. tt)
turn-live DataEnd byte live = line_feed-live byte (To (Size 0 0)) (omega arith, omega arith)
turn-live (Trailers bytes) byte live = at_trailer-live byte bytes LastEnd tt
turn-live (Trailer bytes) byte live = at_trailer-live byte bytes (TrailerEnd bytes) live
turn-live (TrailerEnd bytes) byte live = line_feed-live byte (To (Trailers (bytes + 2))) (omega (arith, live))
turn-live LastEnd byte live = choice IsTurnLive (byte == 10) _ _ (λ _. tt) (λ _. tt)
