-- Words are read as what they write: times, replies, credentials modes and subdomains.
use Rattle.std.proofs.Common.{◌≡◌, ◌<◌, ◌^◌, ℕ, Bool, true, false, List, [], ◌∷◌, ◌++◌, length, get_or, codes, refl}
use Rattle.std.proofs.Common.{ap, sym, ◌∙◌, arith, eq-eqb, length-append, length-take, Option, Some, None, ◌⊎◌, inl}
use Rattle.std.proofs.Common.{inr}
use Rattle.std.proofs.lemmas.Bool.{and_parts}
use Rattle.std.proofs.lemmas.Bool.Decides.{Decides-eqb, nat_tests}
use Rattle.std.proofs.lemmas.Grind.{common_steps}
use Rattle.std.proofs.lemmas.List.{take_at}
use Rattle.std.proofs.lemmas.List.Sums.{passes_at_first, split_at_first}
use Rattle.std.proofs.lemmas.Slice.Eq.{bytes_eq-Decides}
use Rattle.std.specs.Prelude.{◌==◌, ◌+◌, not, decimal, bytes_eq, if◌then◌else◌}
use Rattle.std.specs.List.{after_first, before_first, position_or_len, prefix_len}
use Rattle.value_lemmas.proofs.Options.{if-from, if-parts}
use Rattle.value_decimal.specs.Decimals.{number_up_to}
use Rattle.value_decimal.proofs.DecimalLemmas.{lacks, number-lacks, number-read, number-writes}
use Rattle.book_calls.specs.declared.op.Reply.{Reply}
use Rattle.book_calls.specs.declared.op.Reply.TheVariants.{Yes, No, Done}
use Rattle.script_lines.specs.Calls.{credentials_text, reply_text, subdomains_text}
use Rattle.audit_text.specs.Private.Reading.{credentials_in, reply_in, subdomains_in, time_in}

-- ---- times

abbrev is_colon : ℕ → Bool
is_colon byte = byte == 58

colon-at : (text : List ℕ) → lacks 58 text ≡ true
    → length text ≡ prefix_len (λ byte. not (is_colon byte)) (text ++ 58 ∷ [])
colon-at [] e = grind arith
colon-at (byte ∷ text) e =
    grind (arith, common_steps, colon-at text (and_parts (not (byte == 58)) (lacks 58 text) e).1)

until-colon : (text : List ℕ) → lacks 58 text ≡ true → before_first is_colon (text ++ 58 ∷ []) ≡ text
until-colon text e = take_at text (58 ∷ []) _ (colon-at text e)

no-more : (rest : List ℕ) → length rest ≡ 0 → rest ≡ []
no-more [] e = refl
no-more (byte ∷ rest) e = absurd (omega arith)

ends-in-colon : (word : List ℕ) → length (before_first is_colon word) + 1 ≡ length word
    → before_first is_colon word ++ 58 ∷ [] ≡ word
ends-in-colon word e =
    let front = before_first is_colon word in
    let rest = after_first is_colon word in
    let at = position_or_len is_colon word in
    let within : at < length word = omega (arith, e, length-take at word) in
    let cut : word ≡ front ++ (get_or word at 0 ∷ rest) = split_at_first is_colon word 0 within in
    let colon : get_or word at 0 ≡ 58 = (Decides-eqb (get_or word at 0) 58).0
    (passes_at_first is_colon word 0 within) in
    let none : rest ≡ [] =
    no-more rest (omega (arith, e, simp length-append at (ap length cut))) in
    ap (λ (byte : ℕ). front ++ byte ∷ []) (sym colon)
    ∙ ap (λ (l : List ℕ). front ++ get_or word at 0 ∷ l) (sym none) ∙ sym cut

pub time-writes : (word : List ℕ) (n : ℕ) → time_in word ≡ Some n
    → (decimal n ++ codes ":" ≡ word) × (n < 2 ^ 48)
time-writes word n e =
    let front = before_first (λ b. b == 58) word in
    let is = if-parts (length front + 1 == length word) (number_up_to 281474976710655 front) n e in
    let written = number-writes 281474976710655 front n is.1 in (
      ap (λ (l : List ℕ). l ++ codes ":") written.text ∙ ends-in-colon word (grind (arith, nat_tests, is.0)),
      omega (arith, written.few),
    )

pub time-read : (n : ℕ) → n < 2 ^ 48 → time_in (decimal n ++ codes ":") ≡ Some n
time-read n small =
    let text = decimal n in
    let front : before_first (λ b. b == 58) (text ++ codes ":") ≡ text =
    until-colon text (number-lacks 58 (inr (omega arith)) n (omega (arith, small))) in
    if-from (length (before_first (λ b. b == 58) (text ++ codes ":")) + 1 == length (text ++ codes ":"))
    (number_up_to 281474976710655 (before_first (λ b. b == 58) (text ++ codes ":"))) n
    (rw (front, length-append text (codes ":")) (eq-eqb (length text + 1) (length text + 1) refl))
    (ap (number_up_to 281474976710655) front
    ∙ number-read 281474976710655 n (omega (arith, small)) (omega (arith, small)))

-- ---- choices

-- a word is this name, or the choice is among the others
named : {A : Type 0} (word name : List ℕ) (x y : A) (others : Option A)
    → (if bytes_eq word name then Some x else others) ≡ Some y → ((name ≡ word) × (x ≡ y)) ⊎ (others ≡ Some y)
named word name x y others e = by (bytes_eq word name) (bytes_eq-Decides word name).0 e
  where
    by : (b : Bool) → (b ≡ true → word ≡ name) → (if b then Some x else others) ≡ Some y
        → ((name ≡ word) × (x ≡ y)) ⊎ (others ≡ Some y)
    by true same e = inl (sym (same refl), cc)
    by false same e = inr e

pub reply-writes : (word : List ℕ) (reply : Reply) → reply_in word ≡ Some reply → reply_text reply ≡ word
reply-writes word reply e =
    elim (named word (codes "yes") Yes reply (if bytes_eq word (codes "no") then Some No
    else if bytes_eq word (codes "done") then Some Done else None) e) [
      | inl is ↦ ap reply_text (sym is.1) ∙ is.0
      | inr other ↦ elim (named word (codes "no") No reply
          (if bytes_eq word (codes "done") then Some Done else None) other) [
            | inl is ↦ ap reply_text (sym is.1) ∙ is.0
            | inr last ↦ elim (named word (codes "done") Done reply None last) [
              | inl is ↦ ap reply_text (sym is.1) ∙ is.0
              | inr none ↦ cc
            ]
          ]
    ]

pub reply-read : (reply : Reply) → reply_in (reply_text reply) ≡ Some reply
reply-read Yes = refl
reply-read No = refl
reply-read Done = refl

pub credentials-writes : (word : List ℕ) (include : Bool) → credentials_in word ≡ Some include
    → credentials_text include ≡ word
credentials-writes word include e =
    elim (named word (codes "include") true include (if bytes_eq word (codes "other") then Some false else None) e) [
      | inl is ↦ ap credentials_text (sym is.1) ∙ is.0
      | inr other ↦ elim (named word (codes "other") false include None other) [
        | inl is ↦ ap credentials_text (sym is.1) ∙ is.0
        | inr none ↦ cc
      ]
    ]

pub credentials-read : (include : Bool) → credentials_in (credentials_text include) ≡ Some include
credentials-read true = refl
credentials-read false = refl

pub subdomains-writes : (word : List ℕ) (subdomains : Bool) → subdomains_in word ≡ Some subdomains
    → subdomains_text subdomains ≡ word
subdomains-writes word subdomains e =
    elim (named word (codes "sub") true subdomains (if bytes_eq word (codes "exact") then Some false else None) e) [
      | inl is ↦ ap subdomains_text (sym is.1) ∙ is.0
      | inr other ↦ elim (named word (codes "exact") false subdomains None other) [
        | inl is ↦ ap subdomains_text (sym is.1) ∙ is.0
        | inr none ↦ cc
      ]
    ]

pub subdomains-read : (subdomains : Bool) → subdomains_in (subdomains_text subdomains) ≡ Some subdomains
subdomains-read true = refl
subdomains-read false = refl
