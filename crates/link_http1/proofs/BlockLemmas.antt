-- What ends in an empty line, and lines that do not.
use Rattle.std.proofs.Common.{◌≡◌, ◌⊎◌, inl, inr, ℕ, zero, suc, Bool, true, false, true≢false, List, [], ◌∷◌}
use Rattle.std.proofs.Common.{◌++◌, length, take, reverse, refl, ap, sym, ◌∙◌, subst, arith, append_assoc}
use Rattle.std.proofs.lemmas.Bool.{and_parts, or_cases, or_right}
use Rattle.std.proofs.lemmas.Bool.Decides.{Decides-eqb}
use Rattle.std.proofs.lemmas.List.{append-nil, reverse-append, take_all}
use Rattle.std.proofs.lemmas.List.Folds.{list_any-append}
use Rattle.std.proofs.lemmas.Slice.Eq.{ends_is}
use Rattle.std.specs.List.{ends_with, list_any}
use Rattle.std.specs.Prelude.{codes, nat_eq}
use Rattle.link_http1.specs.Blocks.{is_block, is_line_byte}

-- ---- the end of a block

-- read from its end, the text begins with an empty line
abbrev pub EndsEmpty : List ℕ → Type 0
EndsEmpty back = (rest : List ℕ) × ((back ≡ 10 ∷ 10 ∷ rest) ⊎ (back ≡ 10 ∷ 13 ∷ 10 ∷ rest))

ends : (text end : List ℕ) → (ends_with nat_eq text end ≡ true → (front : List ℕ) × (text ≡ front ++ end))
    × ((front : List ℕ) → text ≡ front ++ end → ends_with nat_eq text end ≡ true)
ends text end = let is = ends_is Decides-eqb text end (ends_with nat_eq text end) refl in ((λ h. (_, is.0 h)), is.1)

-- a block ends in an empty line
pub block-ends : (text : List ℕ) → is_block text ≡ true → EndsEmpty (reverse text)
block-ends text block = by_cases (or_cases _ _ (and_parts _ _ block).1)
  where
    by_cases : (ends_with nat_eq text (codes "\n\n") ≡ true) ⊎ (ends_with nat_eq text (codes "\n\r\n") ≡ true)
        → EndsEmpty (reverse text)
    by_cases (inl h) = let it = (ends text (codes "\n\n")).0 h in
        (reverse it.0, inl (ap (λ (l : List ℕ). reverse l) it.1 ∙ reverse-append it.0 (codes "\n\n")))
    by_cases (inr h) = let it = (ends text (codes "\n\r\n")).0 h in
        (reverse it.0, inr (ap (λ (l : List ℕ). reverse l) it.1 ∙ reverse-append it.0 (codes "\n\r\n")))

-- what holds a byte of a line and ends so is a block
pub is-block-lf : (front : List ℕ) → list_any is_line_byte front ≡ true → is_block (front ++ codes "\n\n") ≡ true
is-block-lf front some = rw (
  list_any-append is_line_byte front (codes "\n\n"),
  some,
  (ends (front ++ codes "\n\n") (codes "\n\n")).1 front refl,
) refl

pub is-block-crlf : (front : List ℕ) → list_any is_line_byte front ≡ true → is_block (front ++ codes "\n\r\n") ≡ true
is-block-crlf front some = rw (
  list_any-append is_line_byte front (codes "\n\r\n"),
  some,
  or_right (ends_with nat_eq (front ++ codes "\n\r\n") (codes "\n\n"))
      (ends_with nat_eq (front ++ codes "\n\r\n") (codes "\n\r\n"))
      ((ends (front ++ codes "\n\r\n") (codes "\n\r\n")).1 front refl),
) refl

-- what does not end so is none
pub no-block : (text : List ℕ) → (EndsEmpty (reverse text) → ⊥) → is_block text ≡ false
no-block text none = by_value (is_block text) refl
  where
    by_value : (b : Bool) → is_block text ≡ b → is_block text ≡ false
    by_value true is = absurd (none (block-ends text is))
    by_value false is = is

pub back-push : (text : List ℕ) (byte : ℕ) → reverse (text ++ byte ∷ []) ≡ byte ∷ reverse text
back-push text byte = reverse-append text (byte ∷ [])

-- a block ends in LF
pub no-block-push : (text : List ℕ) (byte : ℕ) → ¬ (byte ≡ 10) → is_block (text ++ byte ∷ []) ≡ false
no-block-push text byte other = no-block (text ++ byte ∷ []) (λ end. by_cases end.1)
  where
    by_cases : {rest : List ℕ} → (reverse (text ++ byte ∷ []) ≡ 10 ∷ 10 ∷ rest)
        ⊎ (reverse (text ++ byte ∷ []) ≡ 10 ∷ 13 ∷ 10 ∷ rest) → ⊥
    by_cases {rest} (inl h) = let b = back-push text byte in other (cc)
    by_cases {rest} (inr h) = let b = back-push text byte in other (cc)

pub is-line : (byte : ℕ) → is_line_byte byte ≡ true → (¬ (byte ≡ 10)) × (¬ (byte ≡ 13))
is-line byte line = ((λ h. true≢false (sym line ∙ ap is_line_byte h)), (λ h. true≢false (sym line ∙ ap is_line_byte h)))

pub no-block-line : (text : List ℕ) (byte : ℕ) → is_line_byte byte ≡ true → is_block (text ++ byte ∷ []) ≡ false
no-block-line text byte line = no-block-push text byte (is-line byte line).0

-- ---- texts in which no block ends

-- after the first text, no block ends while the second is read, nor at its end
abbrev pub IsQuiet : List ℕ → List ℕ → Type 0
IsQuiet before text = (n : ℕ) → is_block (before ++ take n text) ≡ false

pub quiet-nil : (before : List ℕ) → is_block before ≡ false → IsQuiet before []
quiet-nil before none zero = ap is_block (append-nil before) ∙ none
quiet-nil before none (suc n) = ap is_block (append-nil before) ∙ none

pub quiet-cons : (before : List ℕ) (byte : ℕ) (text : List ℕ) → is_block before ≡ false
    → IsQuiet (before ++ byte ∷ []) text → IsQuiet before (byte ∷ text)
quiet-cons before byte text none more zero = ap is_block (append-nil before) ∙ none
quiet-cons before byte text none more (suc n) = ap is_block (sym (append_assoc before (byte ∷ []) (take n text)))
    ∙ more n

pub quiet-append : (before text more : List ℕ) → IsQuiet before text → IsQuiet (before ++ text) more
    → IsQuiet before (text ++ more)
quiet-append before [] more quiet next = subst (λ (l : List ℕ). IsQuiet l more) (append-nil before) next
quiet-append before (byte ∷ text) more quiet next =
    quiet-cons before byte (text ++ more) (ap is_block (sym (append-nil before)) ∙ quiet 0)
    (quiet-append (before ++ byte ∷ []) text more (λ n. ap is_block (append_assoc before (byte ∷ []) (take n text))
    ∙ quiet (suc n))
    (subst (λ (l : List ℕ). IsQuiet l more) (sym (append_assoc before (byte ∷ []) text)) next))

-- at its end no block ends either
pub quiet-end : (before text : List ℕ) → IsQuiet before text → is_block (before ++ text) ≡ false
quiet-end before text quiet =
    ap (λ (l : List ℕ). is_block (before ++ l)) (sym (take_all (length text) text (omega arith))) ∙ quiet (length text)

-- a text without a byte of a line is no block
pub no-line-byte : (text : List ℕ) → list_any is_line_byte text ≡ false → is_block text ≡ false
no-line-byte text none = rw none refl
