-- Bytes as text.
use Rattle.std.proofs.Common.{◌≡◌, ℕ, List, Bool, true, false, Some, None, Option, refl, if◌then◌else◌}
use Rattle.std.specs.Prelude.{IsUtf8}
use Rattle.std.specs.Str.{is_utf8}
use Rattle.std.proofs.lemmas.Str.{IsUtf8-from_is_utf8, is_utf8-from_IsUtf8}
use Rattle.value_requests.specs.Urls.{utf8_text}

pub utf8_text-IsUtf8 : (bytes : List ℕ) → IsUtf8 bytes → utf8_text bytes ≡ Some bytes
utf8_text-IsUtf8 bytes valid = rw (is_utf8-from_IsUtf8 bytes valid) refl

pub utf8_text-none : (bytes : List ℕ) → ¬ (IsUtf8 bytes) → utf8_text bytes ≡ None
utf8_text-none bytes invalid =
    let P : Bool → Type 0 = λ b. let o : Option (List ℕ) = if b then Some bytes else None in o ≡ None in
    elim (is_utf8 bytes) as (λ b. is_utf8 bytes ≡ b → P b) [
      | true ↦
          λ is. absurd (invalid (IsUtf8-from_is_utf8 bytes is))
      | false ↦ λ _. refl
    ] refl
