-- Joined values that are compared with a text and not built.
use Rattle.std.proofs.Common.{arith, ◌≡◌, ◌≢◌, ◌++◌, ◌∷◌, [], ℕ, List, length, Bool, true, false}
use Rattle.std.proofs.Common.{◌&&◌, ◌==◌, refl, sym, ◌∙◌, ap, codes, true≢false, ◌↔◌, IsTrue, Option, Some, None}
use Rattle.std.specs.Bool.{Decides, one_answer}
use Rattle.std.specs.Str.{bytes_eq}
use Rattle.std.proofs.lemmas.Grind.{common_steps}
use Rattle.std.proofs.lemmas.List.{append_cancel_left}
use Rattle.std.proofs.lemmas.Slice.Eq.{bytes_eq-Decides}
use Rattle.value_text.specs.Mime.{is_text}
use Rattle.value_headers.specs.Headers.{after_comma, joined}
use Rattle.value_headers.specs.Private.Joining.{behind_value}

-- whether the values that are left, joined, are the rest of the text
abbrev pub is_rest : Bool → List ℕ → List (List ℕ) → Bool
is_rest false rest values = is_text rest (joined values)
is_rest true rest values = bytes_eq (after_comma values) rest

-- a test that decides one fact decides an equivalent one
both : {P Q : Type 0} {r : Bool} → Decides r P → (P → Q) → (Q → P) → Decides r Q
both d f g = (λ e. f (d.0 e), λ q. d.1 (g q))

-- a test of what does not hold
false-from_Decides : {P : Type 0} {r : Bool} → Decides r P → (P → ⊥) → r ≡ false
false-from_Decides {r = true} d none = absurd (none (d.0 refl))
false-from_Decides {r = false} d none = refl

-- texts that there are
Some-same : {a b : List ℕ} → (let o : Option (List ℕ) = Some a in o) ≡ Some b → a ≡ b
Some-same e = cc

-- two texts that make equal texts after the same value, and the same comma, are equal
behind-same : (found : Bool) (value a b : List ℕ) → behind_value found value a ≡ behind_value found value b → a ≡ b
behind-same false value a b e = append_cancel_left value a b e
behind-same true value a b e =
    append_cancel_left value a b (append_cancel_left (codes ", ") (value ++ a) (value ++ b) e)

-- the value and those after it, as one text
joined-behind : (found : Bool) (rest value : List ℕ) (values : List (List ℕ)) → is_rest found rest (value ∷ values)
    ≡ bytes_eq (behind_value found value (after_comma values)) rest
joined-behind false rest value values = refl
joined-behind true rest value values = refl

-- a value that is at the front of the rest
pub is_rest-more : (found : Bool) (rest value after : List ℕ) (values : List (List ℕ))
    → rest ≡ behind_value found value after → is_rest found rest (value ∷ values) ≡ is_rest true after values
is_rest-more found rest value after values e =
    joined-behind found rest value values
    ∙ one_answer _ _ (bytes_eq-Decides (behind_value found value (after_comma values)) rest)
    (both (bytes_eq-Decides (after_comma values) after)
    (λ same. ap (behind_value found value) same ∙ sym e)
    (λ same. behind-same found value (after_comma values) after (same ∙ e)))

-- a value that is not there
pub is_rest-none : (found : Bool) (rest value : List ℕ) (values : List (List ℕ))
    → ((after : List ℕ) → rest ≢ behind_value found value after) → is_rest found rest (value ∷ values) ≡ false
is_rest-none found rest value values none =
    joined-behind found rest value values
    ∙ false-from_Decides (bytes_eq-Decides (behind_value found value (after_comma values)) rest)
    (λ same. none (after_comma values) (sym same))

-- no value is left
pub is_rest-end : (found : Bool) (rest : List ℕ) → is_rest found rest [] ≡ found && (length rest == 0)
is_rest-end false rest = refl
is_rest-end true [] = refl
is_rest-end true (byte ∷ rest) = grind (arith, common_steps)

-- a second prefix that is not there
pub behind-none : (text after value : List ℕ) → text ≡ codes ", " ++ after
    → ((rest : List ℕ) → after ≢ value ++ rest) → (rest : List ℕ) → text ≢ behind_value true value rest
behind-none text after value e none rest same =
    none rest (append_cancel_left (codes ", ") after (value ++ rest) (sym e ∙ same))

-- the test of an optional text
pub is_text-Some : (text : List ℕ) (found : Option (List ℕ)) → IsTrue (is_text text found) ↔ (found ≡ Some text)
is_text-Some text None = (λ e. absurd (true≢false (sym e)), λ e. cc)
is_text-Some text (Some other) =
    (λ e. ap (λ t. Some t) ((bytes_eq-Decides other text).0 e), λ e. (bytes_eq-Decides other text).1 (Some-same e))
