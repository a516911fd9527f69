-- What trimming leaves is a part of the text.
use Rattle.std.proofs.Common.{◌≡◌, ◌==◌, ℕ, true, false, List, [], ◌∷◌, ◌++◌, reverse, refl, ap, sym, ◌∙◌}
use Rattle.std.proofs.Common.{if◌then◌else◌}
use Rattle.std.proofs.lemmas.List.{reverse-append, reverse-reverse}
use Rattle.std.specs.List.{list_any}
use Rattle.value_text.specs.Trims.{trimmed_end, trimmed_start}

-- the end of it
pub trimmed_start-rest : (blanks text : List ℕ) → (front : List ℕ) × (text ≡ front ++ trimmed_start blanks text)
trimmed_start-rest blanks [] = ([], refl)
trimmed_start-rest blanks (byte ∷ text) =
    elim (list_any (λ blank. blank == byte) blanks)
    as (λ v. (front : List ℕ) × (byte ∷ text ≡ front ++ (if v then trimmed_start blanks text else byte ∷ text))) [
      | true ↦ let more = trimmed_start-rest blanks text in (byte ∷ more.0, ap (λ l. byte ∷ l) more.1)
      | false ↦
          ([], refl)
    ]

-- or its front
pub trimmed_end-rest : (blanks text : List ℕ) → (back : List ℕ) × (text ≡ trimmed_end blanks text ++ back)
trimmed_end-rest blanks text =
    let rest = trimmed_start-rest blanks (reverse text) in (
      reverse rest.0,
      sym (reverse-reverse text) ∙ ap (λ l. reverse l) rest.1
          ∙ reverse-append rest.0 (trimmed_start blanks (reverse text)),
    )
