-- Values of header lines are normalised, and the parser's spans make the header list.
use Rattle.std.proofs.Common.{◌≡◌, ◌==◌, ◌≤◌, ℕ, Bool, true, false, true≢false, List, [], ◌∷◌, ◌++◌, length, take}
use Rattle.std.proofs.Common.{map, reverse, refl, ap, sym, ◌∙◌, subst, arith, length-take, Result, if◌then◌else◌}
use Rattle.std.proofs.lemmas.Bool.{eq-eqb, eqb-true, ne_eqb}
use Rattle.std.proofs.lemmas.List.{append-nil, drop_all, length-map, reverse-append}
use Rattle.std.proofs.lemmas.List.Elements.{recursion_from_All}
use Rattle.std.specs.List.{AllByRecursion, list_any}
use Rattle.httparse.specs.Grammar.{Field, IsField, is_ows, is_value_byte, print_response, ResponseHead, skip_ows}
use Rattle.httparse.specs.Grammar.{trim_ows}
use Rattle.httparse.specs.Spans.{FindsResponse, header_bytes, IsResponseAt, name_and_value}
use Rattle.httparse.specs.Outcome.{IsCompleteAnd}
use Rattle.httparse.specs.declared.Error.{Error}
use Rattle.httparse.specs.declared.Status.{Status}
use Rattle.httparse.specs.declared.spans.HeaderSpan.{HeaderSpan}
use Rattle.httparse.specs.declared.spans.ResponseSpans.{ResponseSpans}
use Rattle.value_headers.specs.Headers.{appended}
use Rattle.value_headers.specs.declared.headers.Header.{Header}
use Rattle.value_text.specs.Trims.{http_whitespace, trimmed, trimmed_start}
use Rattle.link_http1.specs.Blocks.{is_line_byte}
use Rattle.link_http1.specs.Private.HeadReading.{HasRoom, with_pairs}
use Rattle.link_http1.specs.Heads.{IsHead, most_lines, with_lines}
use Rattle.link_http1.proofs.LineLemmas.{IsLineText}
use Rattle.link_http1.proofs.HeadLemmas.{line_text-all, line_text-append}

-- ---- a value without CR and LF is normalised by dropping tabs and spaces

-- among the bytes of a line only tab and space are whitespace
blank-is : (byte : ℕ) → is_line_byte byte ≡ true → list_any (λ blank. blank == byte) http_whitespace ≡ is_ows byte
blank-is byte line = by_values (byte == 9) (byte == 10) (byte == 13) (byte == 32) refl refl refl refl
  where
    other : (blank : ℕ) → (byte == blank) ≡ false → (blank == byte) ≡ false
    other blank no_match = ne_eqb blank byte (λ same. true≢false (sym (eq-eqb byte blank (sym same)) ∙ no_match))

    by_values : (a b d e : Bool) → (byte == 9) ≡ a → (byte == 10) ≡ b → (byte == 13) ≡ d → (byte == 32) ≡ e
        → list_any (λ blank. blank == byte) http_whitespace ≡ is_ows byte
    by_values true b d e p q r s = ap (λ (n : ℕ). list_any (λ blank. blank == n) http_whitespace) (eqb-true byte 9 p)
        ∙ sym (ap is_ows (eqb-true byte 9 p))
    by_values false true d e p q r s = absurd (true≢false (sym line ∙ ap is_line_byte (eqb-true byte 10 q)))
    by_values false false true e p q r s = absurd (true≢false (sym line ∙ ap is_line_byte (eqb-true byte 13 r)))
    by_values false false false true p q r s =
        ap (λ (n : ℕ). list_any (λ blank. blank == n) http_whitespace) (eqb-true byte 32 s)
        ∙ sym (ap is_ows (eqb-true byte 32 s))
    by_values false false false false p q r s = rw (other 9 p, other 10 q, other 13 r, other 32 s, p, s) refl

start-is : (text : List ℕ) → IsLineText text → trimmed_start http_whitespace text ≡ skip_ows text
start-is [] each = refl
start-is (byte ∷ text) each =
    ap (λ (b : Bool). if b then trimmed_start http_whitespace text else byte ∷ text) (blank-is byte each.0)
    ∙ ap (λ (l : List ℕ). if is_ows byte then l else byte ∷ text) (start-is text each.1)

line_text-skip : (text : List ℕ) → IsLineText text → IsLineText (skip_ows text)
line_text-skip [] each = tt
line_text-skip (byte ∷ text) each =
    elim (is_ows byte)
    as (λ v. IsLineText (if v then skip_ows text else byte ∷ text))
    [ true ↦ line_text-skip text each.1 | false ↦ each ]

line_text-reverse : (text : List ℕ) → IsLineText text → IsLineText (reverse text)
line_text-reverse [] each = tt
line_text-reverse (byte ∷ text) each =
    subst IsLineText (sym (reverse-append (byte ∷ []) text))
    (line_text-append (reverse text) (byte ∷ []) (line_text-reverse text each.1) (each.0, tt))

trim-is : (text : List ℕ) → IsLineText text → trimmed http_whitespace text ≡ trim_ows text
unfolding trim_ows
trim-is text each =
    ap (λ (l : List ℕ). reverse (trimmed_start http_whitespace (reverse l))) (start-is text each)
    ∙ ap (λ (l : List ℕ). reverse l)
    (start-is (reverse (skip_ows text)) (line_text-reverse (skip_ows text) (line_text-skip text each)))

-- ---- the header list

pub lines-are : (headers : List Header) (fields : List Field) → AllByRecursion IsField fields
    → with_pairs headers (map name_and_value fields) ≡ with_lines headers fields
lines-are headers [] each = refl
lines-are headers (field ∷ fields) each =
    ap (λ (value : List ℕ). with_pairs (appended field.name value headers) (map name_and_value fields))
    (sym (trim-is field.raw (line_text-all is_value_byte refl refl field.raw each.0.raw)))
    ∙ lines-are (appended field.name (trimmed http_whitespace field.raw) headers) fields each.1

-- the header lines that the spans cover are those of the head
pub spans-lines : (block : List ℕ) (headers : List HeaderSpan) (spans : ResponseSpans) (head : ResponseHead)
    → IsResponseAt block headers spans head → with_pairs [] (map (header_bytes block) (take spans.headers headers))
    ≡ with_lines [] head.fields
spans-lines block headers spans head at =
    ap (λ (pairs : List (List ℕ × List ℕ)). with_pairs [] pairs) at.fields
    ∙ lines-are [] head.fields (recursion_from_All IsField head.fields at.reads.0.fields)

-- a head that is as long as the block is the block
pub spans-block : (block : List ℕ) (headers : List HeaderSpan) (spans : ResponseSpans) (head : ResponseHead)
    → IsResponseAt block headers spans head → spans.len ≡ length block → block ≡ print_response head
spans-block block headers spans head at long =
    at.reads.1 ∙ ap (λ (l : List ℕ). print_response head ++ l) (drop_all spans.len block (omega (arith, long)))
    ∙ append-nil (print_response head)

-- and it has no more lines than there is room
pub spans-few : (block : List ℕ) (headers : List HeaderSpan) (spans : ResponseSpans) (head : ResponseHead)
    → IsResponseAt block headers spans head → length headers ≤ most_lines → IsHead head
spans-few block headers spans head at room = record {
  head = at.reads.0;
  few = omega (
    arith,
    room,
    ap length at.fields,
    length-map (take spans.headers headers) (header_bytes block),
    length-map head.fields name_and_value,
    length-take spans.headers headers,
  );
}

-- a head that is the whole block is found
pub found-whole : (block : List ℕ) (room : ℕ) (headers : List HeaderSpan)
    (answer : Result (Status ResponseSpans) Error) (head : ResponseHead) → HasRoom block room
    → FindsResponse block room headers answer → IsHead head → block ≡ print_response head
    → IsCompleteAnd answer (λ spans. IsResponseAt block headers spans head)
found-whole block room headers answer head fits found is printed =
    found head [] (is.head, printed ∙ sym (append-nil (print_response head))) (fits head is printed)
