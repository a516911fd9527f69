-- The head of a request: its lines find room, and the parser's spans make what it asks.
use Rattle.std.proofs.Common.{◌≡◌, ◌≤◌, ℕ, List, [], ◌∷◌, ◌++◌, length, take, drop, map, refl, ap, sym, ◌∙◌, arith}
use Rattle.std.proofs.Common.{append_assoc, length-take, Option, Some, None, ◌<◌, false, true≢false, subst}
use Rattle.std.proofs.lemmas.List.{append-nil, length-map, take_at}
use Rattle.std.proofs.lemmas.List.Elements.{recursion_from_All}
use Rattle.std.specs.List.{flat_map}
use Rattle.httparse.specs.Grammar.{is_token_byte, is_uri_byte, IsRequestHead, print_section}
use Rattle.httparse.specs.Grammar.{IsField, print_blank, print_end, print_field, print_request, print_version}
use Rattle.httparse.specs.Grammar.{RequestHead}
use Rattle.httparse.specs.Spans.{header_bytes, IsRequestAt, name_and_value}
use Rattle.httparse.specs.declared.spans.HeaderSpan.{HeaderSpan}
use Rattle.httparse.specs.declared.spans.RequestSpans.{RequestSpans}
use Rattle.httparse.proofs.GrammarLemmas.{cons-append, print_request-append, request_unique}
use Rattle.link_http1.specs.Blocks.{is_block, IsShortestBlock}
use Rattle.link_http1.specs.Heads.{most_lines}
use Rattle.link_http1.specs.Private.HeadReading.{line_ends, with_pairs}
use Rattle.link_http1.specs.RequestHeads.{asked_of, BeginsRequest, IsRead}
use Rattle.link_http1.specs.declared.request_head.Asked.{Asked}
use Rattle.link_http1.proofs.BlockLemmas.{no-line-byte, quiet-append}
use Rattle.link_http1.proofs.LineLemmas.{IsBehindLine, IsLineText, line-quiet, shortest-behind}
use Rattle.link_http1.proofs.HeadLemmas.{behind-both, blank-none, blank-quiet, fields-quiet, line_text-all}
use Rattle.link_http1.proofs.HeadLemmas.{line_text-append}
use Rattle.link_http1.proofs.HeadLemmas.{minor-line, token-cr, token-lf}
use Rattle.link_http1.proofs.CountLemmas.{ends-append, fields-ends}
use Rattle.link_http1.proofs.ValueLemmas.{lines-are}

-- ---- room

-- a head has no more header lines than line ends
printed-ends : (head : RequestHead) → length head.fields ≤ line_ends (print_request head)
unfolding print_request
printed-ends head =
    let front : List ℕ = print_blank head.blank
    ++ head.method ++ 32 ∷ head.target ++ 32 ∷ print_version head.minor ++ print_end head.line_end in
    let fields : List ℕ = flat_map print_field head.fields in
    omega (
      arith,
      ends-append front (fields ++ print_end head.last),
      ends-append fields (print_end head.last),
      fields-ends head.fields,
    )

pub few-request-lines : (bytes : List ℕ) (head : RequestHead) → BeginsRequest bytes head
    → length head.fields ≤ line_ends bytes
few-request-lines bytes head begins = omega (
  arith,
  ap line_ends begins.whole,
  ends-append (print_request head) begins.rest,
  printed-ends head,
)

-- ---- what the spans cover

-- the bytes begin with the head that the spans cover
pub spans-begin : (bytes : List ℕ) (headers : List HeaderSpan) (spans : RequestSpans) (head : RequestHead)
    → IsRequestAt bytes headers spans head → length headers ≤ most_lines → BeginsRequest bytes head
spans-begin bytes headers spans head at room = record {
  valid = record {
    head = at.reads.0;
    few = omega (
      arith,
      room,
      ap length at.fields,
      length-map (take spans.headers headers) (header_bytes bytes),
      length-map head.fields name_and_value,
      length-take spans.headers headers,
    );
  };
  rest = drop spans.len bytes;
  whole = at.reads.1;
}

-- the method and the header lines that they cover are those of the head
pub spans-asked : (bytes : List ℕ) (headers : List HeaderSpan) (spans : RequestSpans) (head : RequestHead)
    (asked : Asked) → IsRequestAt bytes headers spans head → asked.method ≡ head.method
    → asked.headers ≡ with_pairs [] (map (header_bytes bytes) (take spans.headers headers)) → asked ≡ asked_of head
spans-asked bytes headers spans head asked at method lines =
    let list = lines ∙ ap (λ (pairs : List (List ℕ × List ℕ)). with_pairs [] pairs) at.fields
    ∙ lines-are [] head.fields (recursion_from_All IsField head.fields at.reads.0.fields) in
    λ i. record { method = method i; headers = list i }

-- ---- a head is a shortest block

-- what is between the first byte of a request line and its end, where this is the rest of the method
abbrev request_rest : List ℕ → RequestHead → List ℕ
request_rest name head = name ++ (32 ∷ (head.target ++ (32 ∷ print_version head.minor)))

version-line : (minor : ℕ) → minor ≤ 1 → IsLineText (print_version minor)
version-line minor most = (refl, (refl, (refl, (refl, (refl, (refl, (refl, (minor-line minor most, tt))))))))

request-line : (name : List ℕ) (head : RequestHead) → IsRequestHead head → IsLineText name
    → IsLineText (request_rest name head)
request-line name head is each =
    line_text-append name (32 ∷ (head.target ++ (32 ∷ print_version head.minor))) each (
      refl,
      line_text-append head.target (32 ∷ print_version head.minor)
          (line_text-all is_uri_byte refl refl head.target is.target.1) (refl, version-line head.minor is.minor),
    )

regroup : (blank name target version end fields last : List ℕ) (byte : ℕ)
    → blank ++ ((byte ∷ name) ++ 32 ∷ (target ++ 32 ∷ (version ++ (end ++ ((fields ++ last) ++ [])))))
    ≡ (blank ++ ((byte ∷ ((name ++ (32 ∷ (target ++ (32 ∷ version)))) ++ end)) ++ fields)) ++ last
regroup blank name target version end fields last byte = simp (append_assoc, append-nil, cons-append)

-- the empty lines, the request line, the fields and the last empty line
request-parts : (head : RequestHead) (byte : ℕ) (name : List ℕ) → head.method ≡ byte ∷ name → print_request head
    ≡ (print_blank head.blank ++ ((byte ∷ (request_rest name head ++ print_end head.line_end))
    ++ flat_map print_field head.fields)) ++ print_end head.last
request-parts head byte name same =
    sym (append-nil (print_request head)) ∙ print_request-append head []
    ∙ ap (λ (l : List ℕ). print_blank head.blank ++ (l ++ 32 ∷ (head.target ++ 32 ∷ (print_version head.minor
    ++ (print_end head.line_end ++ (print_section head.fields head.last ++ [])))))) same
    ∙ regroup (print_blank head.blank) name head.target (print_version head.minor) (print_end head.line_end)
    (flat_map print_field head.fields) (print_end head.last) byte

pub request-shortest : (head : RequestHead) → IsRequestHead head → IsShortestBlock (print_request head)
request-shortest head is = by_method head.method refl is.method.0
  where
    by_method : (method : List ℕ) → head.method ≡ method → 0 < length method → IsShortestBlock (print_request head)
    by_method [] same some = absurd (omega (arith, some))
    by_method (byte ∷ name) same some =
        let each : IsLineText (byte ∷ name) =
        subst IsLineText same (line_text-all is_token_byte token-cr token-lf head.method is.method.1) in
        let blank : List ℕ = print_blank head.blank in
        let line : List ℕ = byte ∷ (request_rest name head ++ print_end head.line_end) in
        let fields : List ℕ = flat_map print_field head.fields in
        let one : IsBehindLine blank line =
        line-quiet blank byte (request_rest name head) head.line_end (no-line-byte blank (blank-none head.blank))
        each.0 (request-line name head is each.1) in
        let all : IsBehindLine blank (line ++ fields) =
        behind-both blank line fields one
        (fields-quiet (blank ++ line) head.fields one.line (recursion_from_All IsField head.fields is.fields)) in
        subst IsShortestBlock (sym (request-parts head byte name same))
        (shortest-behind (blank ++ (line ++ fields)) head.last
        (quiet-append [] blank (line ++ fields) (blank-quiet head.blank) all.quiet) all.line)

-- where no prefix of the bytes is a block, none is a head
pub no-request : (bytes : List ℕ) → ((n : ℕ) → is_block (take n bytes) ≡ false) → IsRead bytes None
no-request bytes none = λ printed begins.
    let front : take (length (print_request printed)) bytes ≡ print_request printed =
    ap (λ (l : List ℕ). take (length (print_request printed)) l) begins.whole
    ∙ take_at (print_request printed) begins.rest (length (print_request printed)) refl in
    true≢false (sym (request-shortest printed begins.valid.head).block ∙ sym (ap is_block front)
    ∙ none (length (print_request printed)))

-- ---- one head

-- bytes begin with one head at most
pub begins-once : (bytes : List ℕ) (one other : RequestHead) → BeginsRequest bytes one → BeginsRequest bytes other
    → one ≡ other
begins-once bytes one other a b =
    (request_unique bytes one other a.rest b.rest (a.valid.head, a.whole) (b.valid.head, b.whole)).0

-- one thing is read of them
pub read-once : (bytes : List ℕ) (one other : Option Asked) → IsRead bytes one → IsRead bytes other → one ≡ other
read-once bytes None None a b = refl
read-once bytes None (Some other) a b = absurd (a b.0 b.1)
read-once bytes (Some one) None a b = absurd (b a.0 a.1)
read-once bytes (Some one) (Some other) a b =
    ap Some (a.2 ∙ ap asked_of (begins-once bytes a.0 b.0 a.1 b.1) ∙ sym b.2)

-- and it stays, whatever follows
pub read-more : (bytes more : List ℕ) (asked : Asked) → IsRead bytes (Some asked) → IsRead (bytes ++ more) (Some asked)
read-more bytes more asked is = (
  is.0,
  record {
    valid = is.1.valid;
    rest = is.1.rest ++ more;
    whole = ap (λ (l : List ℕ). l ++ more) is.1.whole ∙ append_assoc (print_request is.0) is.1.rest more;
  },
  is.2,
)
