-- The bytes of a response head: they are a shortest block, and one head only.
use Rattle.std.proofs.Common.{◌≡◌, ◌==◌, ◌≤◌, ◌<◌, ◌+◌, ◌⊎◌, inl, inr, ℕ, zero, suc, Bool, true, false}
use Rattle.std.proofs.Common.{true≢false, List, [], ◌∷◌, ◌++◌, length, take, refl, ap, sym, ◌∙◌, subst, arith}
use Rattle.std.proofs.Common.{append_assoc, Option, Some, None}
use Rattle.std.proofs.lemmas.Bool.{cases_order, eqb-true, or_parts}
use Rattle.std.proofs.lemmas.List.{append-nil, take_at, take-append-le}
use Rattle.std.proofs.lemmas.List.Elements.{recursion_from_All}
use Rattle.std.specs.Char.{is_ascii_digit}
use Rattle.std.specs.List.{AllByRecursion, flat_map, list_any}
use Rattle.std.specs.Prelude.{IsTrue, codes}
use Rattle.httparse.specs.Grammar.{AllPass, Field, is_token_byte, is_value_byte, IsField, IsResponseHead, LineEnd}
use Rattle.httparse.specs.Grammar.{crlf, lf, print_blank, print_end, print_field, print_reason, print_response}
use Rattle.httparse.specs.Grammar.{print_version, reason_phrase, ResponseHead}
use Rattle.httparse.proofs.GrammarLemmas.{print_response-append, response_unique}
use Rattle.link_http1.specs.Blocks.{is_block, is_line_byte, IsShortestBlock}
use Rattle.link_http1.proofs.BlockLemmas.{IsQuiet, no-line-byte, quiet-append, quiet-nil}
use Rattle.link_http1.proofs.LineLemmas.{ends_line-none, EndsLine, IsBehindLine, IsLineText, line-quiet}
use Rattle.link_http1.proofs.LineLemmas.{shortest-behind}

-- ---- the bytes of the grammar's classes are bytes of a line

-- a test that CR and LF fail
line_from : (test : ℕ → Bool) → test 13 ≡ false → test 10 ≡ false → (byte : ℕ) → test byte ≡ true → is_line_byte byte
    ≡ true
line_from test cr newline byte pass = by_values (byte == 13) (byte == 10) refl refl
  where
    by_values : (a b : Bool) → (byte == 13) ≡ a → (byte == 10) ≡ b → is_line_byte byte ≡ true
    by_values true b is also = absurd (true≢false (sym pass ∙ ap test (eqb-true byte 13 is) ∙ cr))
    by_values false true is also = absurd (true≢false (sym pass ∙ ap test (eqb-true byte 10 also) ∙ newline))
    by_values false false is also = rw (is, also) refl

line_text : (test : ℕ → Bool) → test 13 ≡ false → test 10 ≡ false → (text : List ℕ)
    → AllByRecursion (λ byte. IsTrue (test byte)) text → IsLineText text
line_text test cr newline [] each = tt
line_text test cr newline (byte ∷ text) each =
    (line_from test cr newline byte each.0, line_text test cr newline text each.1)

pub line_text-all : (test : ℕ → Bool) → test 13 ≡ false → test 10 ≡ false → (text : List ℕ) → AllPass test text
    → IsLineText text
line_text-all test cr newline text all =
    line_text test cr newline text (recursion_from_All (λ byte. IsTrue (test byte)) text all)

pub line_text-append : (text more : List ℕ) → IsLineText text → IsLineText more → IsLineText (text ++ more)
line_text-append [] more each rest = rest
line_text-append (byte ∷ text) more each rest = (each.0, line_text-append text more each.1 rest)

pub token-cr : is_token_byte 13 ≡ false
unfolding is_token_byte
token-cr = refl

pub token-lf : is_token_byte 10 ≡ false
unfolding is_token_byte
token-lf = refl

-- ---- the lines of a head

pub blank-none : (ends : List LineEnd) → list_any is_line_byte (print_blank ends) ≡ false
blank-none [] = refl
blank-none (crlf ∷ ends) = blank-none ends
blank-none (lf ∷ ends) = blank-none ends

take-none : (n : ℕ) (text : List ℕ) → list_any is_line_byte text ≡ false → list_any is_line_byte (take n text) ≡ false
take-none zero text none = refl
take-none (suc n) [] none = refl
take-none (suc n) (byte ∷ text) none =
    let both = or_parts (is_line_byte byte) (list_any is_line_byte text) none in
    rw both.0 (take-none n text both.1)

-- no block ends in the empty lines before a head
pub blank-quiet : (ends : List LineEnd) → IsQuiet [] (print_blank ends)
blank-quiet ends n = no-line-byte (take n (print_blank ends)) (take-none n (print_blank ends) (blank-none ends))

pub field-parts : (field : Field) → print_field field ≡ field.name ++ (58 ∷ (field.raw ++ print_end field.end))
field-parts field = simp append_assoc

-- the line of a field
field-quiet : (before : List ℕ) (field : Field) → is_block before ≡ false → IsField field
    → IsBehindLine before (print_field field)
field-quiet before field none is = by_name field.name is.name.0 refl
  where
    by_name : (name : List ℕ) → 0 < length name → field.name ≡ name → IsBehindLine before (print_field field)
    by_name [] some same = absurd (omega (arith, some))
    by_name (byte ∷ rest) some same =
        let each : IsLineText (byte ∷ rest) =
        subst IsLineText same (line_text-all is_token_byte token-cr token-lf field.name is.name.1) in
        let raw : IsLineText field.raw = line_text-all is_value_byte refl refl field.raw is.raw in
        subst (λ (l : List ℕ). IsBehindLine before l)
        (ap (λ (l : List ℕ). byte ∷ l) (append_assoc rest (58 ∷ field.raw) (print_end field.end))
        ∙ ap (λ (l : List ℕ). l ++ (58 ∷ (field.raw ++ print_end field.end))) (sym same) ∙ sym (field-parts field))
        (line-quiet before byte (rest ++ 58
        ∷ field.raw) field.end none each.0 (line_text-append rest (58 ∷ field.raw) each.1 (refl, raw)))

-- one text after another
pub behind-both : (before text more : List ℕ) → IsBehindLine before text → IsBehindLine (before ++ text) more
    → IsBehindLine before (text ++ more)
behind-both before text more first second = record {
  quiet = quiet-append before text more first.quiet second.quiet;
  line = subst EndsLine (append_assoc before text more) second.line;
}

pub fields-quiet : (before : List ℕ) (fields : List Field) → EndsLine before → AllByRecursion IsField fields
    → IsBehindLine before (flat_map print_field fields)
fields-quiet before [] line each = record {
  quiet = quiet-nil before (ends_line-none before line);
  line = subst EndsLine (sym (append-nil before)) line;
}
fields-quiet before (field ∷ fields) line each =
    let one = field-quiet before field (ends_line-none before line) each.0 in
    behind-both before (print_field field) (flat_map print_field fields) one
    (fields-quiet (before ++ print_field field) fields one.line each.1)

-- ---- the status line

-- what is between the first byte of a status line and its end
abbrev pub status_rest : ResponseHead → List ℕ
status_rest head = codes "TTP/1." ++ ((48 + head.minor) ∷ 32 ∷ (head.digits ++ print_reason head.reason))

pub minor-line : (minor : ℕ) → minor ≤ 1 → is_line_byte (48 + minor) ≡ true
minor-line zero most = refl
minor-line (suc zero) most = refl
minor-line (suc (suc n)) most = absurd (omega (arith, most))

reason-line : (reason : Option (List ℕ)) → AllPass is_value_byte (reason_phrase reason)
    → IsLineText (print_reason reason)
reason-line None all = tt
reason-line (Some phrase) all = (refl, line_text-all is_value_byte refl refl phrase all)

status-line : (head : ResponseHead) → IsResponseHead head → IsLineText (status_rest head)
status-line head is = (
  refl,
  (
    refl,
    (
      refl,
      (
        refl,
        (
          refl,
          (
            refl,
            (
              minor-line head.minor is.minor,
              (
                refl,
                line_text-append head.digits (print_reason head.reason)
                    (line_text-all is_ascii_digit refl refl head.digits is.digits.1)
                    (reason-line head.reason is.reason),
              ),
            ),
          ),
        ),
      ),
    ),
  ),
)

regroup : (digits reason end fields last : List ℕ) → digits ++ (reason ++ (end ++ ((fields ++ last) ++ [])))
    ≡ ((digits ++ reason) ++ end) ++ (fields ++ last)
regroup digits reason end fields last = simp (append_assoc, append-nil)

-- the empty lines, the status line, the fields and the last empty line
pub printed-parts : (head : ResponseHead) → print_response head
    ≡ (print_blank head.blank ++ ((72 ∷ (status_rest head ++ print_end head.line_end))
    ++ flat_map print_field head.fields)) ++ print_end head.last
printed-parts head =
    let rest : List ℕ = status_rest head ++ print_end head.line_end in
    let fields : List ℕ = flat_map print_field head.fields in
    sym (append-nil (print_response head)) ∙ print_response-append head []
    ∙ ap (λ (l : List ℕ). print_blank head.blank ++ (print_version head.minor ++ 32 ∷ l))
    (regroup head.digits (print_reason head.reason) (print_end head.line_end) fields (print_end head.last))
    ∙ ap (λ (l : List ℕ). print_blank head.blank ++ l) (sym (append_assoc (72 ∷ rest) fields (print_end head.last)))
    ∙ sym (append_assoc (print_blank head.blank) ((72 ∷ rest) ++ fields) (print_end head.last))

-- ---- the theorem: a head is a shortest block

pub head-shortest : (head : ResponseHead) → IsResponseHead head → IsShortestBlock (print_response head)
head-shortest head is =
    let blank : List ℕ = print_blank head.blank in
    let line : List ℕ = 72 ∷ (status_rest head ++ print_end head.line_end) in
    let fields : List ℕ = flat_map print_field head.fields in
    let one : IsBehindLine blank line =
    line-quiet blank 72 (status_rest head) head.line_end (no-line-byte blank (blank-none head.blank)) refl
    (status-line head is) in
    let all : IsBehindLine blank (line ++ fields) =
    behind-both blank line fields one
    (fields-quiet (blank ++ line) head.fields one.line (recursion_from_All IsField head.fields is.fields)) in
    subst IsShortestBlock (sym (printed-parts head))
    (shortest-behind (blank ++ (line ++ fields)) head.last
    (quiet-append [] blank (line ++ fields) (blank-quiet head.blank) all.quiet) all.line)

-- ---- two shortest blocks, or two heads, at one front

pub shortest-one : (a b x y : List ℕ) → IsShortestBlock a → IsShortestBlock b → a ++ x ≡ b ++ y → a ≡ b
shortest-one a b x y one other same = by_lengths (cases_order (length a) (length b))
  where
    by_lengths : (length a ≡ length b) ⊎ ((length a < length b) ⊎ (length b < length a)) → a ≡ b
    by_lengths (inr (inl less)) =
        absurd (true≢false (sym one.block
        ∙ ap is_block (sym (take_at a x (length a) refl) ∙ ap (λ (l : List ℕ). take (length a) l) same
        ∙ take-append-le (length a) b y (omega (arith, less))) ∙ other.shortest (length a) less))
    by_lengths (inr (inr less)) =
        absurd (true≢false (sym other.block
        ∙ ap is_block (sym (take_at b y (length b) refl) ∙ ap (λ (l : List ℕ). take (length b) l) (sym same)
        ∙ take-append-le (length b) a x (omega (arith, less))) ∙ one.shortest (length b) less))
    by_lengths (inl long) = sym (take_at a x (length b) long) ∙ ap (λ (l : List ℕ). take (length b) l) same
        ∙ take_at b y (length b) refl

-- a head at the front is the only one
pub head-one : (h k : ResponseHead) (x y : List ℕ) → IsResponseHead h → IsResponseHead k → print_response h ++ x
    ≡ print_response k ++ y → h ≡ k
head-one h k x y one other same = (response_unique (print_response h ++ x) h k x y (one, refl) (other, same)).0
