-- Header values that are cut: what is cut is a header value where the whole is.
use Rattle.std.proofs.Common.{◌≡◌, ℕ, zero, suc, ◌<◌, Bool, true, false, cond, ◌&&◌, not, List, [], ◌∷◌, ◌++◌, length}
use Rattle.std.proofs.Common.{take}
use Rattle.std.proofs.Common.{refl, ap, ◌∙◌, arith}
use mathlib.Core.Bool.{and-false}
use Rattle.std.proofs.lemmas.Bool.{and_parts}
use Rattle.std.proofs.lemmas.List.{length-take, length-append}
use Rattle.std.proofs.lemmas.Slice.Eq.{bytes_eq-Decides}
use Rattle.std.specs.Prelude.{◌==◌, bytes_eq, nat_lt}
use Rattle.std.specs.List.{list_all, list_any}
use Rattle.value_text.specs.Trims.{tab_or_space, trimmed}
use Rattle.value_text.specs.Values.{is_header_value, is_nul_or_newline}
use Rattle.script_filling.proofs.TrimLemmas.{begins-unblank, trimmed-between}
use Rattle.script_filling.specs.Filling.{cut_value, mark}

-- the byte may stand in a header value
abbrev fits : ℕ → Bool
fits byte = not (is_nul_or_newline byte)

-- with one more at its end that fits, what is taken of a text that fits does
all-taken : (n : ℕ) (text : List ℕ) (last : ℕ) → list_all fits text ≡ true → fits last ≡ true
    → list_all fits (take n text ++ last ∷ []) ≡ true
all-taken zero text last all ends = ap (λ (b : Bool). b && true) ends
all-taken (suc n) [] last all ends = ap (λ (b : Bool). b && true) ends
all-taken (suc n) (byte ∷ text) last all ends =
    let parts = and_parts (fits byte) (list_all fits text) all in
    ap (λ (b : Bool). b && list_all fits (take n text ++ last ∷ [])) parts.0 ∙ all-taken n text last parts.1 ends

-- with one that does not, it does not
none-fits : (text : List ℕ) (last : ℕ) → fits last ≡ false → list_all fits (text ++ last ∷ []) ≡ false
none-fits [] last bad = ap (λ (b : Bool). b && true) bad
none-fits (byte ∷ text) last bad =
    ap (λ (b : Bool). fits byte && b) (none-fits text last bad) ∙ and-false (fits byte)

-- a header value stays one
still-value : (n : ℕ) (value : List ℕ) → 0 < n → 0 < length value → is_header_value value ≡ true
    → is_header_value (take n value ++ 97 ∷ []) ≡ true
still-value zero value some long is = absurd (omega (arith, some))
still-value (suc n) [] some long is = absurd (omega (arith, long))
still-value (suc n) (byte ∷ text) some long is =
    let parts = and_parts (bytes_eq (trimmed tab_or_space (byte ∷ text)) (byte ∷ text))
    (list_all fits (byte ∷ text)) is in
    let begins : list_any (λ (blank : ℕ). blank == byte) tab_or_space ≡ false =
    begins-unblank tab_or_space byte text
    ((bytes_eq-Decides (trimmed tab_or_space (byte ∷ text)) (byte ∷ text)).0 parts.0) in
    let same : bytes_eq (trimmed tab_or_space (byte ∷ (take n text ++ 97 ∷ []))) (byte ∷ (take n text ++ 97 ∷ []))
    ≡ true =
    (bytes_eq-Decides (trimmed tab_or_space (byte ∷ (take n text ++ 97 ∷ []))) (byte ∷ (take n text ++ 97 ∷ []))).1
    (trimmed-between tab_or_space byte 97 (take n text) begins refl) in
    ap (λ (b : Bool). b && list_all fits (byte ∷ (take n text ++ 97 ∷ []))) same
    ∙ all-taken (suc n) (byte ∷ text) 97 parts.1 refl

by-value : (value : List ℕ) (is : Bool) → 0 < length value → is_header_value value ≡ is
    → is_header_value (take 16384 value ++ cond is 97 0 ∷ []) ≡ is
by-value value true long e = still-value 16384 value (omega arith) long e
by-value value false long e =
    ap (λ (b : Bool). bytes_eq (trimmed tab_or_space (take 16384 value ++ 0 ∷ [])) (take 16384 value ++ 0 ∷ []) && b)
    (none-fits (take 16384 value) 0 refl)
    ∙ and-false _

by-length : (value : List ℕ) (long : Bool) → nat_lt 16384 (length value) ≡ long
    → is_header_value (cond long (take 16384 value ++ mark value ∷ []) value) ≡ is_header_value value
by-length value false e = refl
by-length value true e = by-value value (is_header_value value) (grind (arith, e)) refl

-- what is cut is a header value where the whole is
pub cut-value : (value : List ℕ) → is_header_value (cut_value value) ≡ is_header_value value
cut-value value = by-length value (nat_lt 16384 (length value)) refl

-- and is longer than all headers of a request may be, or the whole
pub cut-length : (value : List ℕ) → 16384 < length value → length (cut_value value) ≡ 16385
cut-length value long =
    let is : nat_lt 16384 (length value) ≡ true = grind (arith, long) in
    ap (λ (b : Bool). length (cond b (take 16384 value ++ mark value ∷ []) value)) is
    ∙ length-append (take 16384 value) (mark value ∷ [])
    ∙ omega (arith, length-take 16384 value, long)

pub uncut-value : (value : List ℕ) → nat_lt 16384 (length value) ≡ false → cut_value value ≡ value
uncut-value value short =
    ap (λ (b : Bool). cond b (take 16384 value ++ mark value ∷ []) value) short
