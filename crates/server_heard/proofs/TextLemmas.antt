-- What the tests of texts tell of their bytes.
use Rattle.std.proofs.Common.{◌≡◌, ◌==◌, ◌||◌, ◌<◌, ℕ, Bool, true, false, not, true≢false, List, [], ◌∷◌, length}
use Rattle.std.proofs.Common.{refl, sym, arith}
use Rattle.std.proofs.lemmas.Bool.{and_from, and_parts, ltb-true, ne_eqb, not_from_false}
use Rattle.std.proofs.lemmas.List.Elements.{All-from_recursion, All-weaker}
use Rattle.std.specs.List.{AllByRecursion, list_all}
use Rattle.std.specs.Prelude.{IsTrue, nat_lt}
use Rattle.httparse.specs.Grammar.{AllPass, is_token_byte, is_uri_byte, is_value_byte, IsToken}
use Rattle.value_text.specs.Tokens.{is_tchar, is_token}
use Rattle.value_text.specs.Values.{is_header_value, is_nul_or_newline}
use Rattle.link_http1.specs.Blocks.{is_line_byte}
use Rattle.link_http1.proofs.HeadLemmas.{line_text-all}

pass : (test : ℕ → Bool) (text : List ℕ) → list_all test text ≡ true → AllByRecursion (λ byte. IsTrue (test byte)) text
pass test [] all = tt
pass test (byte ∷ text) all =
    let both = and_parts (test byte) (list_all test text) all in (both.0, pass test text both.1)

-- a test that all bytes pass
pub passes : (test : ℕ → Bool) (text : List ℕ) → list_all test text ≡ true → AllPass test text
passes test text all = All-from_recursion (λ byte. IsTrue (test byte)) text (pass test text all)

-- a token of the engine is one of the grammar
pub token : (text : List ℕ) → is_token text ≡ true → IsToken text
unfolding is_token_byte
token [] is = absurd (true≢false (sym is))
token (byte ∷ text) is = (
  omega arith,
  passes is_tchar (byte ∷ text) (and_parts (not (length (byte ∷ text) == 0)) (list_all is_tchar (byte ∷ text)) is).1,
)

-- no byte of a request target is a space
uri-no-space : (byte : ℕ) → IsTrue (is_uri_byte byte) → IsTrue (not (byte == 32))
uri-no-space byte is =
    let above : 32 < byte = ltb-true 32 byte (and_parts (nat_lt 32 byte) (not (byte == 127)) is).0 in
    not_from_false (byte == 32) (ne_eqb byte 32 (λ (same : byte ≡ 32). omega (arith, above, same)))

pub uri-lacks_space : (text : List ℕ) → AllPass is_uri_byte text → AllPass (λ byte. not (byte == 32)) text
uri-lacks_space =
    All-weaker (λ (byte : ℕ). IsTrue (is_uri_byte byte)) (λ (byte : ℕ). IsTrue (not (byte == 32))) uri-no-space

-- a value of the grammar is on one line
pub raw-line : (text : List ℕ) → AllPass is_value_byte text → AllPass is_line_byte text
raw-line text all =
    All-from_recursion (λ (byte : ℕ). IsTrue (is_line_byte byte)) text (line_text-all is_value_byte refl refl text all)

-- ---- header values

-- a byte that is neither NUL nor a newline is one of a line
line-byte : (byte : ℕ) → not (is_nul_or_newline byte) ≡ true → is_line_byte byte ≡ true
line-byte byte is = by_values (byte == 0) (byte == 10) (byte == 13) is
  where
    by_values : (a b c : Bool) → not (a || b || c) ≡ true → not (c || b) ≡ true
    by_values true b c h = absurd (true≢false (sym h))
    by_values false true c h = absurd (true≢false (sym h))
    by_values false false true h = absurd (true≢false (sym h))
    by_values false false false h = refl

line-bytes : (text : List ℕ) → list_all (λ byte. not (is_nul_or_newline byte)) text ≡ true
    → list_all is_line_byte text ≡ true
line-bytes [] all = refl
line-bytes (byte ∷ text) all =
    let both = and_parts (not (is_nul_or_newline byte)) (list_all (λ b. not (is_nul_or_newline b)) text) all in
    and_from (is_line_byte byte) (list_all is_line_byte text) (line-byte byte both.0) (line-bytes text both.1)

-- a header value is on one line
pub header_value-line : (text : List ℕ) → is_header_value text ≡ true → list_all is_line_byte text ≡ true
header_value-line text is =
    line-bytes text (and_parts _ (list_all (λ byte. not (is_nul_or_newline byte)) text) is).1
