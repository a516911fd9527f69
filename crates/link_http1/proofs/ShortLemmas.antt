-- Digits without the zeros in front are digits of the same number.
use Rattle.std.proofs.Common.{arith, ◌≡◌, ◌<◌, ◌∷◌, [], ℕ, List, length, refl}
use Rattle.std.proofs.Common.{inl, inr, true, false, Some}
use Rattle.std.proofs.lemmas.Bool.Decides.{eqb_tells}
use Rattle.std.proofs.lemmas.Grind.{common_steps}
use Rattle.std.specs.List.{list_all, slice_get}
use Rattle.std.specs.Str.Parse.{digits_value}
use Rattle.value_text.specs.Digits.{capped_digits, is_digits, writes}
use Rattle.link_http1.specs.Framings.{by_lengths}
use Rattle.link_http1.specs.Private.Lengths.{shortened}
use Rattle.link_http1.specs.declared.framing.Framing.TheVariants.{Broken}

pub value-shortened : (digits : List ℕ) → digits_value 10 (shortened digits) ≡ digits_value 10 digits
value-shortened [] = refl
value-shortened (digit ∷ []) = refl
value-shortened (digit ∷ (next ∷ digits)) =
    elim (eqb_tells digit 48) [
      | inl zero ↦ rw (zero.0, zero.1) (value-shortened (next ∷ digits))
      | inr other ↦ rw other.0 refl
    ]

pub shortened-digits : (digits : List ℕ) → is_digits digits ≡ true → is_digits (shortened digits) ≡ true
shortened-digits [] are = are
shortened-digits (digit ∷ []) are = are
shortened-digits (digit ∷ (next ∷ digits)) are =
    elim (eqb_tells digit 48) [
      | inl zero ↦ rw zero.0 (shortened-digits (next ∷ digits) (grind (arith, common_steps)))
      | inr other ↦ rw other.0 are
    ]

-- one digit or none stays
pub shortened-few : (digits : List ℕ) → length digits < 2 → shortened digits ≡ digits
shortened-few [] few = refl
shortened-few (digit ∷ []) few = refl
shortened-few (digit ∷ (next ∷ digits)) few = absurd (omega arith)

-- so a text that is read as a number may be shortened before others are compared with it
pub shortened-read : (text : List ℕ) (cap value : ℕ) → Some value ≡ capped_digits text cap
    → is_digits (shortened text) ≡ true
shortened-read text cap value read = shortened-digits text (grind (arith, common_steps))

-- and the texts are compared as with the whole of the first
pub broken-lengths : (texts : List (List ℕ)) (first : List ℕ) → slice_get texts 0 ≡ Some first
    → false ≡ list_all (writes (digits_value 10 (shortened first))) texts → Broken ≡ by_lengths texts
broken-lengths [] first found fails = refl
broken-lengths (text ∷ texts) first found fails =
    let same : text ≡ first = (cc) in
    grind (arith, common_steps, same, value-shortened first)
