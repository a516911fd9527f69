-- Methods and lists of tokens are read as what they write.
use Rattle.std.proofs.Common.{◌≡◌, ℕ, Bool, true, false, List, [], ◌∷◌, ◌++◌, length, codes, refl, ap, sym, ◌∙◌}
use Rattle.std.proofs.Common.{arith, Option, Some, None}
use Rattle.std.proofs.lemmas.Bool.{and_from, and_parts}
use Rattle.std.proofs.lemmas.Bool.Decides.{nat_tests}
use Rattle.std.proofs.lemmas.List.{append-nil}
use Rattle.std.proofs.lemmas.List.Elements.{All-cons, All-nil}
use Rattle.std.proofs.lemmas.List.Folds.{list_all-append}
use Rattle.std.proofs.lemmas.List.Splits.{join_with_byte-slice_split, length-slice_split, slice_split_at}
use Rattle.std.proofs.lemmas.List.Splits.{slice_split_none}
use Rattle.std.proofs.lemmas.Slice.Eq.{bytes_eq-Decides}
use Rattle.std.specs.Prelude.{◌==◌, not, bytes_eq, if◌then◌else◌}
use Rattle.std.specs.List.{All, join_with_byte, list_all, slice_split}
use Rattle.value_lemmas.proofs.Options.{if-from, if-not, if-parts}
use Rattle.value_lemmas.proofs.Lists.{list_all-weaker}
use Rattle.value_text.specs.Tokens.{is_tchar, is_token}
use Rattle.script_lines.specs.Calls.{comma_texts, list_text, method_text}
use Rattle.play_text.specs.Words.{is_method, is_visible, is_word}
use Rattle.audit_text.specs.Private.Reading.{list_in, method_in, tokens_in}
use Rattle.value_decimal.proofs.DecimalLemmas.{lacks}

-- ---- bytes that texts have not

no-tchar : (byte other : ℕ) → is_tchar byte ≡ false → is_tchar other ≡ true → not (other == byte) ≡ true
no-tchar byte other none is = by (other == byte) (eqb-tells other byte)
  where
    eqb-tells : (a b : ℕ) → (a == b) ≡ true → a ≡ b
    eqb-tells a b e = grind (arith, nat_tests)

    by : (b : Bool) → (b ≡ true → other ≡ byte) → not b ≡ true
    by true same = absurd (let e : is_tchar byte ≡ true = ap is_tchar (sym (same refl)) ∙ is in cc)
    by false same = refl

-- a token has no byte that is no tchar
pub token-lacks : (byte : ℕ) → is_tchar byte ≡ false → (text : List ℕ) → is_token text ≡ true → lacks byte text ≡ true
token-lacks byte none text e =
    list_all-weaker is_tchar (λ other. not (other == byte)) (λ other is. no-tchar byte other none is) text
    (and_parts (not (length text == 0)) (list_all is_tchar text) e).1

-- a word has no space
visible-other : (byte : ℕ) → is_visible byte ≡ true → not (byte == 32) ≡ true
visible-other byte e = grind (arith, nat_tests)

pub word-lacks : (text : List ℕ) → is_word text ≡ true → lacks 32 text ≡ true
word-lacks text e =
    list_all-weaker is_visible (λ byte. not (byte == 32)) visible-other text
    (and_parts (not (length text == 0)) (list_all is_visible text) e).1

-- ---- texts that are cut at a byte

pub lacks-all : (byte : ℕ) (text : List ℕ) → lacks byte text ≡ true → All (λ other. (other == byte) ≡ false) text
lacks-all byte [] e = All-nil (λ other. (other == byte) ≡ false)
lacks-all byte (other ∷ text) e =
    All-cons (λ other. (other == byte) ≡ false) other text
    (not-false (other == byte) (and_parts (not (other == byte)) (lacks byte text) e).0)
    (lacks-all byte text (and_parts (not (other == byte)) (lacks byte text) e).1)
  where
    not-false : (b : Bool) → not b ≡ true → b ≡ false
    not-false true e = sym e
    not-false false e = refl

pub split-join : (byte : ℕ) (word : List ℕ) (words : List (List ℕ)) → lacks byte word ≡ true
    → list_all (lacks byte) words ≡ true
    → slice_split (λ other. other == byte) (join_with_byte byte (word ∷ words)) ≡ word ∷ words
split-join byte word [] one more = slice_split_none (λ other. other == byte) word (lacks-all byte word one)
split-join byte word (next ∷ words) one more =
    slice_split_at (λ other. other == byte) word byte (join_with_byte byte (next ∷ words)) (lacks-all byte word one)
    (same byte)
    ∙ ap (λ (l : List (List ℕ)). word ∷ l) (split-join byte next words
    (and_parts (lacks byte next) (list_all (lacks byte) words) more).0
    (and_parts (lacks byte next) (list_all (lacks byte) words) more).1)
  where
    same : (byte : ℕ) → (byte == byte) ≡ true
    same byte = grind (arith, nat_tests)

-- ---- methods

differs : (word other : List ℕ) → (word ≡ other → ⊥) → bytes_eq word other ≡ false
differs word other ne = by (bytes_eq word other) (bytes_eq-Decides word other).0
  where
    by : (b : Bool) → (b ≡ true → word ≡ other) → b ≡ false
    by true same = absurd (ne (same refl))
    by false same = refl

token-named : (word : List ℕ) → is_token word ≡ true → bytes_eq word (codes "()") ≡ false
token-named word e = differs word (codes "()")
    (λ same. let no : is_token (codes "()") ≡ true = ap is_token (sym same) ∙ e in cc)

-- a method is written by its word
pub record WritesMethod (word : List ℕ) (method : Option (List ℕ)) : Type 0 where
  pub text : method_text method ≡ word
  pub valid : is_method method ≡ true

pub method-writes : (word : List ℕ) (method : Option (List ℕ)) → method_in word ≡ Some method → WritesMethod word method
method-writes word method e = by (bytes_eq word (codes "()")) (bytes_eq-Decides word (codes "()")).0 e
  where
    token : (b : Bool) → is_token word ≡ b → (if b then Some (Some word) else None) ≡ Some method
        → WritesMethod word method
    token true is e =
        let same : Some word ≡ method = cc in
        record { text = ap method_text (sym same); valid = ap is_method (sym same) ∙ is }
    token false is e = absurd (cc)

    by : (b : Bool) → (b ≡ true → word ≡ codes "()")
        → (if b then Some None else if is_token word then Some (Some word) else None) ≡ Some method
        → WritesMethod word method
    by true same e =
        let none : None ≡ method = cc in
        record { text = ap method_text (sym none) ∙ sym (same refl); valid = ap is_method (sym none) }
    by false same e = token (is_token word) refl e

pub method-read : (method : Option (List ℕ)) → is_method method ≡ true → method_in (method_text method) ≡ Some method
method-read None e = refl
method-read (Some method) e = rw (token-named method e, e) refl

-- ---- lists

-- a list of tokens is written by its word
pub record WritesList (word : List ℕ) (tokens : List (List ℕ)) : Type 0 where
  pub text : list_text tokens ≡ word
  pub valid : list_all is_token tokens ≡ true

-- joined by commas
joined : (text : List ℕ) (texts : List (List ℕ)) → join_with_byte 44 (text ∷ texts) ≡ text ++ comma_texts texts
joined text [] = sym (append-nil text)
joined text (next ∷ texts) = ap (λ (l : List ℕ). text ++ 44 ∷ l) (joined next texts)

some-parts : (word : List ℕ) → slice_split (λ byte. byte == 44) word ≡ [] → ⊥
some-parts word none =
    let count = length-slice_split (λ byte. byte == 44) word in omega (arith, count, ap length none)

pub list-writes : (word : List ℕ) (tokens : List (List ℕ)) → list_in word ≡ Some tokens → WritesList word tokens
list-writes word tokens e = by (bytes_eq word (codes "()")) (bytes_eq-Decides word (codes "()")).0 e
  where
    parts : List (List ℕ)
    parts = slice_split (λ byte. byte == 44) word

    text-of : (all : List (List ℕ)) → join_with_byte 44 all ≡ word → list_all is_token all ≡ true
        → (all ≡ [] → ⊥) → list_text all ≡ word
    text-of [] is each some = absurd (some refl)
    text-of (text ∷ texts) is each some = sym (joined text texts) ∙ is

    by : (b : Bool) → (b ≡ true → word ≡ codes "()") → (if b then Some [] else tokens_in parts) ≡ Some tokens
        → WritesList word tokens
    by true same e =
        let none : [] ≡ tokens = cc in
        record { text = ap list_text (sym none) ∙ sym (same refl); valid = ap (list_all is_token) (sym none) }
    by false same e =
        let is = if-parts (list_all is_token parts) (Some parts) tokens e in
        let all : parts ≡ tokens = cc in
        record {
          text = ap list_text (sym all) ∙ text-of parts (join_with_byte-slice_split 44 word) is.0 (some-parts word);
          valid = ap (list_all is_token) (sym all) ∙ is.0;
        }

tokens-lack : (byte : ℕ) → is_tchar byte ≡ false → (tokens : List (List ℕ)) → list_all is_token tokens ≡ true
    → list_all (lacks byte) tokens ≡ true
tokens-lack byte none [] e = refl
tokens-lack byte none (token ∷ tokens) e =
    and_from (lacks byte token) (list_all (lacks byte) tokens)
    (token-lacks byte none token (and_parts (is_token token) (list_all is_token tokens) e).0)
    (tokens-lack byte none tokens (and_parts (is_token token) (list_all is_token tokens) e).1)

token-first : (token rest : List ℕ) → is_token token ≡ true → token ++ rest ≡ codes "()" → ⊥
token-first [] rest is e = cc
token-first (byte ∷ token) rest is e =
    let first : byte ≡ 40 = cc in
    let mark = (and_parts (is_tchar byte) (list_all is_tchar token)
    (and_parts (not (length (byte ∷ token) == 0)) (list_all is_tchar (byte ∷ token)) is).1).0 in
    let no : is_tchar 40 ≡ true = ap is_tchar (sym first) ∙ mark in cc

pub list-read : (tokens : List (List ℕ)) → list_all is_token tokens ≡ true → list_in (list_text tokens) ≡ Some tokens
list-read [] e = refl
list-read (token ∷ tokens) e =
    let one = (and_parts (is_token token) (list_all is_token tokens) e).0 in
    let more = (and_parts (is_token token) (list_all is_token tokens) e).1 in
    let cut : slice_split (λ byte. byte == 44) (token ++ comma_texts tokens) ≡ token ∷ tokens =
    ap (slice_split (λ byte. byte == 44)) (sym (joined token tokens))
    ∙ split-join 44 token tokens (token-lacks 44 refl token one) (tokens-lack 44 refl tokens more) in
    if-not (bytes_eq (token ++ comma_texts tokens) (codes "()")) (Some [])
    (tokens_in (slice_split (λ byte. byte == 44) (token ++ comma_texts tokens))) (Some (token ∷ tokens))
    (differs (token ++ comma_texts tokens) (codes "()") (token-first token (comma_texts tokens) one))
    (ap tokens_in cut ∙ if-from (list_all is_token (token ∷ tokens)) (Some (token ∷ tokens)) (token ∷ tokens) e refl)

-- the text of a list of tokens has no space
commas-lack : (tokens : List (List ℕ)) → list_all is_token tokens ≡ true → lacks 32 (comma_texts tokens) ≡ true
commas-lack [] e = refl
commas-lack (token ∷ tokens) e =
    list_all-append (λ byte. not (byte == 32)) token (comma_texts tokens)
    ∙ and_from (lacks 32 token) (lacks 32 (comma_texts tokens))
    (token-lacks 32 refl token (and_parts (is_token token) (list_all is_token tokens) e).0)
    (commas-lack tokens (and_parts (is_token token) (list_all is_token tokens) e).1)

pub list-lacks : (tokens : List (List ℕ)) → list_all is_token tokens ≡ true → lacks 32 (list_text tokens) ≡ true
list-lacks [] e = refl
list-lacks (token ∷ tokens) e =
    list_all-append (λ byte. not (byte == 32)) token (comma_texts tokens)
    ∙ and_from (lacks 32 token) (lacks 32 (comma_texts tokens))
    (token-lacks 32 refl token (and_parts (is_token token) (list_all is_token tokens) e).0)
    (commas-lack tokens (and_parts (is_token token) (list_all is_token tokens) e).1)

pub method-lacks : (method : Option (List ℕ)) → is_method method ≡ true → lacks 32 (method_text method) ≡ true
method-lacks None e = refl
method-lacks (Some method) e = token-lacks 32 refl method e
