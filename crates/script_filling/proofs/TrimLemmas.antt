-- Texts that have nothing to trim.
use Rattle.std.proofs.Common.{◌≡◌, ℕ, ◌≤◌, Bool, true, false, cond, List, [], ◌∷◌, length, ◌++◌, refl, ap, sym, ◌∙◌}
use Rattle.std.proofs.Common.{arith}
use Rattle.std.proofs.lemmas.List.{length-reverse, reverse-append, reverse-reverse}
use Rattle.std.specs.Prelude.{◌==◌, reverse}
use Rattle.std.specs.List.{list_any}
use Rattle.value_text.specs.Trims.{trimmed, trimmed_end, trimmed_start}

by-blank : (blanks : List ℕ) (byte : ℕ) (text : List ℕ) (is : Bool)
    → length (trimmed_start blanks text) ≤ length text
    → length (cond is (trimmed_start blanks text) (byte ∷ text)) ≤ length (byte ∷ text)
by-blank blanks byte text true short = omega (arith, short)
by-blank blanks byte text false short = omega arith

start-short : (blanks text : List ℕ) → length (trimmed_start blanks text) ≤ length text
start-short blanks [] = omega arith
start-short blanks (byte ∷ text) =
    by-blank blanks byte text (list_any (λ (blank : ℕ). blank == byte) blanks) (start-short blanks text)

-- a text that is as long without its first blanks has none
same-by : (blanks : List ℕ) (byte : ℕ) (text : List ℕ) (is : Bool)
    → length (byte ∷ text) ≤ length (cond is (trimmed_start blanks text) (byte ∷ text))
    → cond is (trimmed_start blanks text) (byte ∷ text) ≡ byte ∷ text
same-by blanks byte text true long = absurd (omega (arith, long, start-short blanks text))
same-by blanks byte text false long = refl

start-same : (blanks text : List ℕ) → length text ≤ length (trimmed_start blanks text)
    → trimmed_start blanks text ≡ text
start-same blanks [] long = refl
start-same blanks (byte ∷ text) long =
    same-by blanks byte text (list_any (λ (blank : ℕ). blank == byte) blanks) long

end-short : (blanks text : List ℕ) → length (trimmed_end blanks text) ≤ length text
end-short blanks text = omega (
  arith,
  length-reverse (trimmed_start blanks (reverse text)),
  start-short blanks (reverse text),
  length-reverse text,
)

end-same : (blanks text : List ℕ) → length text ≤ length (trimmed_end blanks text) → trimmed_end blanks text ≡ text
end-same blanks text long =
    ap reverse (start-same blanks (reverse text) (omega (
      arith,
      long,
      length-reverse text,
      length-reverse (trimmed_start blanks (reverse text)),
    ))) ∙ reverse-reverse text

-- the same at both ends
pub trimmed-same : (blanks text : List ℕ) → length text ≤ length (trimmed blanks text) → trimmed blanks text ≡ text
trimmed-same blanks text long =
    let first : trimmed_start blanks text ≡ text = start-same blanks text (omega (
      arith,
      long,
      end-short blanks (trimmed_start blanks text),
    )) in
    ap (trimmed_end blanks) first ∙ end-same blanks text (omega (
      arith,
      long,
      ap (λ (l : List ℕ).
          length (trimmed_end blanks l)) first,
    ))

-- a text that is as it is without blanks at its ends does not begin with one
pub begins-unblank : (blanks : List ℕ) (byte : ℕ) (text : List ℕ) → trimmed blanks (byte ∷ text) ≡ byte ∷ text
    → list_any (λ (blank : ℕ). blank == byte) blanks ≡ false
begins-unblank blanks byte text same =
    by_first (list_any (λ (blank : ℕ). blank == byte) blanks) refl
  where
    by_first : (is : Bool) → list_any (λ (blank : ℕ). blank == byte) blanks ≡ is → is ≡ false
    by_first false e = refl
    by_first true e =
        let first : trimmed_start blanks (byte ∷ text) ≡ trimmed_start blanks text =
        ap (λ (b : Bool). cond b (trimmed_start blanks text) (byte ∷ text)) e in
        absurd (omega (
          arith,
          ap length same,
          end-short blanks (trimmed_start blanks (byte ∷ text)),
          ap length first,
          start-short blanks text,
        ))

-- a text that neither begins nor ends with a blank stays as it is
pub trimmed-between : (blanks : List ℕ) (first last : ℕ) (text : List ℕ)
    → list_any (λ (blank : ℕ). blank == first) blanks ≡ false
    → list_any (λ (blank : ℕ). blank == last) blanks ≡ false
    → trimmed blanks (first ∷ (text ++ last ∷ [])) ≡ first ∷ (text ++ last ∷ [])
trimmed-between blanks first last text begins ends =
    let whole : List ℕ = first ∷ (text ++ last ∷ []) in
    let start : trimmed_start blanks whole ≡ whole =
    ap (λ (b : Bool). cond b (trimmed_start blanks (text ++ last ∷ [])) whole) begins in
    let turned : reverse whole ≡ last ∷ reverse (first ∷ text) = reverse-append (first ∷ text) (last ∷ []) in
    ap (trimmed_end blanks) start
    ∙ ap (λ (l : List ℕ). reverse (trimmed_start blanks l)) turned
    ∙ ap (λ (b : Bool). reverse (cond b (trimmed_start blanks (reverse (first ∷ text)))
    (last ∷ reverse (first ∷ text))))
    ends
    ∙ ap reverse (sym turned)
    ∙ reverse-reverse whole
