-- The type and the subtype are at the front of a MIME type, with the slash between them.
use Rattle.std.proofs.Common.{◌≡◌, ◌≤◌, ◌<◌, ◌+◌, ◌==◌, ℕ, Bool, true, List, ◌∷◌, ◌++◌, length, take, drop, get_or}
use Rattle.std.proofs.Common.{refl, ap, sym, ◌∙◌, arith, append_assoc, length-append, length-drop, Some, None, ◌&&◌}
use Rattle.std.proofs.Common.{if◌then◌else◌}
use Rattle.std.proofs.lemmas.Bool.{eqb-true}
use Rattle.std.proofs.lemmas.Grind.{common_steps}
use Rattle.std.proofs.lemmas.List.{take-append-drop, take_at}
use Rattle.std.proofs.lemmas.List.Sums.{passes_at_first, split_at_first}
use Rattle.std.specs.List.{after_first, before_first, position_or_len}
use Rattle.value_text.specs.Mime.{subtype_of, type_and_subtype, type_of}
use Rattle.value_text.specs.Tokens.{is_token}
use Rattle.value_text.specs.Trims.{http_whitespace}
use Rattle.value_text.proofs.TrimLemmas.{trimmed_end-rest}

-- a token has a byte
token-some : (text : List ℕ) → is_token text ≡ true → 0 < length text
token-some text token = grind (arith, common_steps)

-- the subtype is at the front of what follows the slash
subtype-rest : (text : List ℕ) → (more : List ℕ) × (after_first (λ byte. byte == 47) text ≡ subtype_of text ++ more)
subtype-rest text =
    let after : List ℕ = after_first (λ byte. byte == 47) text in
    let back = trimmed_end-rest http_whitespace (before_first (λ byte. byte == 59) after) in
    let k : ℕ = position_or_len (λ byte. byte == 59) after in (
      back.0 ++ drop k after,
      sym (take-append-drop k after) ∙ ap (λ l. l ++ drop k after) back.1
          ∙ append_assoc (subtype_of text) back.0 (drop k after),
    )

-- the type, the slash and the subtype are at the front of the text
pub essence-front : (text : List ℕ) → is_token (subtype_of text) ≡ true → (more : List ℕ)
    × (text ≡ (type_of text ++ 47 ∷ subtype_of text) ++ more)
essence-front text token =
    let at : ℕ = position_or_len (λ byte. byte == 47) text in
    let rest = subtype-rest text in
    let some : 0 < length (after_first (λ byte. byte == 47) text) =
    omega (arith, ap length rest.1, length-append (subtype_of text) rest.0, token-some (subtype_of text) token) in
    let within : at < length text = omega (arith, some, length-drop (at + 1) text) in
    let slash : get_or text at 0 ≡ 47 =
    eqb-true (get_or text at 0) 47 (passes_at_first (λ byte. byte == 47) text 0 within) in
    let cut : text ≡ type_of text ++ (get_or text at 0 ∷ after_first (λ byte. byte == 47) text) =
    split_at_first (λ byte. byte == 47) text 0 within in (
      rest.0,
      cut ∙ ap (λ byte. type_of text ++ (byte ∷ after_first (λ byte. byte == 47) text)) slash
          ∙ ap (λ l. type_of text ++ (47 ∷ l)) rest.1 ∙ sym (append_assoc (type_of text) (47 ∷ subtype_of text) rest.0),
    )

-- so it is as long as they are
pub essence-within : (text : List ℕ) → is_token (subtype_of text) ≡ true
    → length (type_of text) + 1 + length (subtype_of text) ≤ length text
essence-within text token =
    let front = essence-front text token in
    omega (
      arith,
      ap length front.1,
      length-append (type_of text ++ 47 ∷ subtype_of text) front.0,
      length-append (type_of text) (47 ∷ subtype_of text),
    )

-- and begins with them
take-essence : (text : List ℕ) → is_token (subtype_of text) ≡ true
    → take (length (type_of text) + 1 + length (subtype_of text)) text ≡ type_of text ++ 47 ∷ subtype_of text
take-essence text token =
    let front = essence-front text token in
    let n : ℕ = length (type_of text) + 1 + length (subtype_of text) in
    ap (λ l. take n l) front.1
    ∙ take_at (type_of text ++ 47 ∷ subtype_of text) front.0 n
    (omega (arith, length-append (type_of text) (47 ∷ subtype_of text)))

-- a choice that both tests allow
both-allow : (a b : Bool) (x : List ℕ) → a ≡ true → b ≡ true → Some x ≡ (if a && b then Some x else None)
both-allow a b x p q = rw (p, q) refl

-- the front of the text, where both parts are tokens
pub type_and_subtype-Some : (text front : List ℕ) → is_token (type_of text) ≡ true → is_token (subtype_of text) ≡ true
    → front ≡ take (length (type_of text) + 1 + length (subtype_of text)) text → Some front ≡ type_and_subtype text
type_and_subtype-Some text front kind subtype same =
    ap (λ (l : List ℕ). Some l) (same ∙ take-essence text subtype)
    ∙ both-allow (is_token (type_of text)) (is_token (subtype_of text)) (type_of text ++ 47
    ∷ subtype_of text) kind subtype
