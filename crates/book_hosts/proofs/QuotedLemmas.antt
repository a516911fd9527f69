-- Quoted strings and values: the grammar and its reading agree.
use Rattle.std.proofs.Common.{◌≡◌, ◌==◌, not, ℕ, Bool, true, false, List, [], ◌∷◌, length, Option, Some, None}
use Rattle.std.proofs.Common.{option_map, refl, sym, subst, if◌then◌else◌, arith}
use Rattle.std.proofs.lemmas.Bool.{eqb-false, eqb-true, ne_eqb}
use Rattle.value_text.specs.Tokens.{is_tchar, is_token}
use Rattle.book_hosts.specs.Grammar.{IsQuoted, IsValue}
use Rattle.book_hosts.specs.Reading.{behind_backslash, unquoted, value_in}
use Rattle.std.specs.Cmp.{first_so, second_so}
use Rattle.std.specs.List.{list_all}

unequal-by : (a b : ℕ) (same : Bool) → (a == b) ≡ same → (a ≡ b → ⊥) → same ≡ false
unequal-by a b false e other = refl
unequal-by a b true e other = absurd (other (eqb-true a b e))

-- a quoted string is read as its value
pub quoted-read : (written value : List ℕ) → IsQuoted written value → unquoted written ≡ Some value
quoted-read _ _ IsQuoted.closed = refl
quoted-read _ _ (IsQuoted.plain byte written value quote backslash q) =
    rw (ne_eqb byte 34 quote, ne_eqb byte 92 backslash, quoted-read written value q) refl
quoted-read _ _ (IsQuoted.escaped byte written value q) = rw (quoted-read written value q) refl

record Added (byte : ℕ) (found : Option (List ℕ)) (value : List ℕ) : Type 0 where
  rest : List ℕ
  found_is : found ≡ Some rest
  value_is : byte ∷ rest ≡ value

added : (byte : ℕ) (found : Option (List ℕ)) (value : List ℕ) → option_map (λ rest. byte ∷ rest) found ≡ Some value
    → Added byte found value
added byte None value e = absurd (cc)
added byte (Some rest) value e = record { rest = rest; found_is = refl; value_is = cc }

read-step : (byte : ℕ) (text value : List ℕ) (quote backslash : Bool) → (byte == 34) ≡ quote → (byte == 92) ≡ backslash
    → ((v : List ℕ) → unquoted text ≡ Some v → IsQuoted text v)
    → ((v : List ℕ) → behind_backslash text ≡ Some v → IsQuoted (92 ∷ text) v)
    → (if quote then (if length text == 0 then Some [] else None) else if backslash then behind_backslash text
    else option_map (λ rest. byte ∷ rest) (unquoted text)) ≡ Some value
    → IsQuoted (byte ∷ text) value
read-step byte [] value true backslash e f plain escaped found =
    let empty : [] ≡ value = cc in
    subst (λ b. IsQuoted (b ∷ []) value) (sym (eqb-true byte 34 e))
    (subst (λ v. IsQuoted (34 ∷ []) v) empty IsQuoted.closed)
read-step byte (next ∷ text) value true backslash e f plain escaped found =
    let longer : (length (next ∷ text) == 0) ≡ false = ne_eqb (length (next ∷ text)) 0 (λ h. omega (arith, h)) in
    let never = rw longer at found in
    absurd (cc)
read-step byte text value false true e f plain escaped found =
    subst (λ b. IsQuoted (b ∷ text) value) (sym (eqb-true byte 92 f)) (escaped value found)
read-step byte text value false false e f plain escaped found =
    let a = added byte (unquoted text) value found in
    subst (λ v. IsQuoted (byte ∷ text) v) a.value_is
    (IsQuoted.plain byte text a.rest (eqb-false byte 34 e) (eqb-false byte 92 f) (plain a.rest a.found_is))

mutual
  -- and what is read so is one
  pub read-quoted : (text value : List ℕ) → unquoted text ≡ Some value → IsQuoted text value
  read-quoted [] value found = absurd (cc)
  read-quoted (byte ∷ text) value found =
      read-step byte text value (byte == 34) (byte == 92) refl refl (λ v e. read-quoted text v e)
      (λ v e. read-escaped text v e) found

  read-escaped : (text value : List ℕ) → behind_backslash text ≡ Some value → IsQuoted (92 ∷ text) value
  read-escaped [] value found = absurd (cc)
  read-escaped (byte ∷ text) value found =
      let a = added byte (unquoted text) value found in
      subst (λ v. IsQuoted (92 ∷ byte ∷ text) v) a.value_is
      (IsQuoted.escaped byte text a.rest (read-quoted text a.rest a.found_is))

-- a token does not begin with a quote
token-unquoted : (byte : ℕ) (text : List ℕ) → is_token (byte ∷ text) ≡ true → (byte == 34) ≡ false
token-unquoted byte text token =
    ne_eqb byte 34 (λ same.
    let taken : is_tchar byte ≡ true =
    first_so (is_tchar byte) (list_all is_tchar text)
    (second_so (not (length (byte ∷ text) == 0)) (list_all is_tchar (byte ∷ text)) token) in
    let there : is_tchar 34 ≡ true = subst (λ b. is_tchar b ≡ true) same taken in
    cc)

-- a value is read as what the grammar says it is
pub value-read : (written value : List ℕ) → IsValue written value → value_in written ≡ Some value
value-read _ _ (IsValue.token [] token) = cc
value-read _ _ (IsValue.token (byte ∷ text) token) = rw (token-unquoted byte text token, token) refl
value-read _ _ (IsValue.quoted written value q) = quoted-read written value q

value-step : (byte : ℕ) (text value : List ℕ) (quote token : Bool) → (byte == 34) ≡ quote → is_token (byte ∷ text)
    ≡ token
    → (if quote then unquoted text else if token then Some (byte ∷ text) else None) ≡ Some value
    → IsValue (byte ∷ text) value
value-step byte text value true token e f found =
    subst (λ b. IsValue (b ∷ text) value) (sym (eqb-true byte 34 e))
    (IsValue.quoted text value (read-quoted text value found))
value-step byte text value false true e f found =
    let same : byte ∷ text ≡ value = cc in
    subst (λ v. IsValue (byte ∷ text) v) same (IsValue.token (byte ∷ text) f)
value-step byte text value false false e f found = absurd (cc)

pub read-value : (written value : List ℕ) → value_in written ≡ Some value → IsValue written value
read-value [] value found = absurd (cc)
read-value (byte ∷ text) value found = value-step byte text value (byte == 34) (is_token (byte ∷ text)) refl refl found
