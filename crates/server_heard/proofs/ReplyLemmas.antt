-- Where the bytes to come are those of a reply, its status and headers are read of them.
use Rattle.std.proofs.Common.{◌≡◌, ◌≤◌, ◌<◌, ◌+◌, ◌/◌, ◌%◌, ◌⊎◌, inl, inr, ℕ, true, false, List, [], ◌∷◌}
use Rattle.std.proofs.Common.{◌++◌, length, take, drop, map, refl, ap, sym, ◌∙◌, subst, arith, append_assoc}
use Rattle.std.proofs.Common.{length-append, length-take, Contains, Some}
use Rattle.std.proofs.lemmas.Bool.{cases_lt}
use Rattle.std.proofs.lemmas.Bool.Decides.{nat_tests}
use Rattle.std.proofs.lemmas.Fmt.{decimal_digit, decimal_is_IsNumeral, decimal_step}
use Rattle.std.proofs.lemmas.Grind.{common_steps}
use Rattle.std.proofs.lemmas.List.{append_cancel_left, append_cancel_right, length-map, take_all, take_at}
use Rattle.std.proofs.lemmas.List.{take-append-drop, take-append-le, take-take}
use Rattle.std.proofs.lemmas.List.Elements.{All-cons, All-contains_itself, All-map, All-nil, All-weaker}
use Rattle.std.specs.Char.{is_ascii_digit}
use Rattle.std.specs.List.{flat_map, list_all}
use Rattle.std.specs.Prelude.{codes, decimal, IsTrue}
use Rattle.httparse.specs.Grammar.{AllPass, crlf, Field, is_value_byte, IsField, print_field}
use Rattle.httparse.specs.Grammar.{print_response, ResponseHead, status_code}
use Rattle.httparse.proofs.GrammarLemmas.{print_response-append}
use Rattle.value_headers.specs.declared.headers.Header.{Header}
use Rattle.value_headers.specs.Headers.{appended}
use Rattle.value_text.specs.Tokens.{is_token}
use Rattle.value_text.specs.Trims.{http_whitespace, trimmed}
use Rattle.value_requests.specs.declared.hop.Head.{Head}
use Rattle.link_http1.specs.Answers.{bad, Decides, final, IsFinal, most_bytes}
use Rattle.link_http1.specs.Blocks.{is_block, IsShortestBlock}
use Rattle.link_http1.specs.Heads.{BeginsSkipped, EndsFinal, head_of, is_skipped, IsHead, Skips, with_lines}
use Rattle.link_http1.specs.Requests.{header_line}
use Rattle.link_http1.proofs.AnswerLemmas.{head-end-one}
use Rattle.link_http1.proofs.HeadLemmas.{field-parts, head-one, head-shortest}
use Rattle.link_http1.proofs.SkipLemmas.{final-not-skipped, skips-meet, skips-more, skips-none, undecided}
use Rattle.server_heard.specs.Heard.{as_read, IsPlainReply, RepliesAreHeard, RepliesHaveHeads}
use Rattle.server_tables.specs.Served.{Reply, reply_bytes}
use Rattle.server_heard.proofs.TextLemmas.{passes, token}

-- ---- the head of a reply

-- the field of a header's line
abbrev field_of : Header → Field
field_of one = record { name = one.name; raw = 32 ∷ one.value; end = crlf }

-- the head that the bytes of a reply begin with
abbrev printed_of : Reply → ResponseHead
printed_of reply = record {
  blank = [];
  minor = 1;
  digits = decimal reply.status;
  reason = Some reply.reason;
  line_end = crlf;
  fields = map field_of reply.headers;
  last = crlf;
}

lines-same : (headers : List Header) → flat_map print_field (map field_of headers) ≡ flat_map header_line headers
lines-same [] = refl
lines-same (one ∷ more) = λ i. field-parts (field_of one) i ++ lines-same more i

regroup : (digits reason fields body : List ℕ)
    → (digits ++ 32 ∷ (reason ++ 13 ∷ 10 ∷ [])) ++ (fields ++ 13 ∷ 10 ∷ body)
    ≡ digits ++ 32 ∷ (reason ++ 13 ∷ 10 ∷ ((fields ++ 13 ∷ 10 ∷ []) ++ body))
regroup digits reason fields body =
    let rest : List ℕ = fields ++ 13 ∷ 10 ∷ body in
    append_assoc digits (32 ∷ (reason ++ 13 ∷ 10 ∷ [])) rest
    ∙ ap (λ (l : List ℕ). digits ++ 32 ∷ l) (append_assoc reason (13 ∷ 10 ∷ []) rest)
    ∙ ap (λ (l : List ℕ). digits ++ 32 ∷ (reason ++ 13 ∷ 10 ∷ l)) (sym (append_assoc fields (13 ∷ 10 ∷ []) body))

-- the bytes of a reply are its head and then its body
reply-parts : (reply : Reply) → reply_bytes reply ≡ print_response (printed_of reply) ++ reply.body
reply-parts reply =
    ap (λ (l : List ℕ). codes "HTTP/1.1 " ++ l)
    (regroup (decimal reply.status) reply.reason (flat_map header_line reply.headers) reply.body)
    ∙ ap (λ (l : List ℕ). codes "HTTP/1.1 " ++ (decimal reply.status ++ 32 ∷ (reply.reason ++ 13 ∷ 10
    ∷ ((l ++ 13 ∷ 10 ∷ []) ++ reply.body)))) (sym (lines-same reply.headers))
    ∙ sym (print_response-append (printed_of reply) reply.body)

-- ---- it is valid

digit : (n : ℕ) → n < 10 → is_ascii_digit (48 + n) ≡ true
digit n below = grind (arith, common_steps)

-- the decimal text of a number of three digits
three : (n : ℕ) → 100 ≤ n → n ≤ 999 → decimal n ≡ (48 + n / 10 / 10) ∷ (48 + n / 10 % 10) ∷ (48 + n % 10) ∷ []
three n low high =
    rw (
      decimal_step n (omega arith) (omega arith),
      decimal_step (n / 10) (omega arith) (omega arith),
      decimal_digit (n / 10 / 10) (omega arith),
    )

three-digits : (n : ℕ) → 100 ≤ n → n ≤ 999 → (length (decimal n) ≡ 3) × AllPass is_ascii_digit (decimal n)
three-digits n low high =
    let P : ℕ → Type 0 = λ byte. is_ascii_digit byte ≡ true in
    let a : ℕ = 48 + n / 10 / 10 in
    let b : ℕ = 48 + n / 10 % 10 in
    let d : ℕ = 48 + n % 10 in (
      ap (λ (l : List ℕ). length l) (three n low high),
      subst (λ (l : List ℕ). AllPass is_ascii_digit l) (sym (three n low high))
          (All-cons P a (b ∷ d ∷ []) (digit (n / 10 / 10) (omega arith))
          (All-cons P b (d ∷ []) (digit (n / 10 % 10) (omega arith))
          (All-cons P d [] (digit (n % 10) (omega arith)) (All-nil P)))),
    )

field-valid : (one : Header) → (is_token one.name ≡ true) × (list_all is_value_byte one.value ≡ true)
    → IsField (field_of one)
field-valid one is = record {
  name = token one.name is.0;
  raw = All-cons (λ (byte : ℕ). IsTrue (is_value_byte byte)) 32 one.value refl (passes is_value_byte one.value is.1);
}

printed-valid : (reply : Reply) → IsPlainReply reply → IsHead (printed_of reply)
printed-valid reply is = record {
  head = record {
    minor = omega arith;
    digits = three-digits reply.status (omega (arith, is.low)) (omega (arith, is.high));
    reason = passes is_value_byte reply.reason is.reason;
    fields = All-map IsField field_of reply.headers
        (All-weaker (Contains reply.headers) (λ (one : Header). IsField (field_of one))
        (λ (one : Header) there. field-valid one (is.lines one there)) reply.headers
        (All-contains_itself reply.headers));
  };
  few = omega (arith, is.few, length-map reply.headers field_of);
}

-- ---- its status and its headers

-- its digits write its status
status-is : (reply : Reply) → IsPlainReply reply → status_code (printed_of reply) ≡ reply.status
status-is reply is = (decimal_is_IsNumeral reply.status (omega (arith, is.high))).1

above-skipped : (n : ℕ) → 200 ≤ n → is_skipped n ≡ false
above-skipped n low = grind (arith, nat_tests)

not-skipped : (reply : Reply) → IsPlainReply reply → is_skipped (status_code (printed_of reply)) ≡ false
not-skipped reply is = ap (λ (n : ℕ). is_skipped n) (status-is reply is) ∙ above-skipped reply.status is.low

-- its fields are read as its headers are
lines-read : (headers before : List Header) → with_lines before (map field_of headers) ≡ as_read before headers
lines-read [] before = refl
lines-read (one ∷ more) before = lines-read more (appended one.name (trimmed http_whitespace one.value) before)

head-is : (reply : Reply) → IsPlainReply reply → head_of (printed_of reply)
    ≡ record { status = reply.status; headers = as_read [] reply.headers }
head-is reply is = λ i. record { status = status-is reply is i; headers = lines-read reply.headers [] i }

-- ---- a head at the front that is final

-- what ends in a final head is the head that the bytes begin with
final-is : (bytes body : List ℕ) (printed : ResponseHead) (head : Head) (n : ℕ)
    → bytes ≡ print_response printed ++ body → IsHead printed → is_skipped (status_code printed) ≡ false
    → EndsFinal (take n bytes) head → (head ≡ head_of printed) × (take n bytes ≡ print_response printed)
final-is bytes body printed head n same is passed ends =
    by_meeting (skips-meet bytes bytes (print_response ends.printed ++ drop n bytes) (skips-none bytes) all)
  where
    all : Skips bytes (print_response ends.printed ++ drop n bytes)
    all = subst (λ (l : List ℕ). Skips l (print_response ends.printed ++ drop n bytes)) (take-append-drop n bytes)
        (skips-more (take n bytes) (print_response ends.printed) (drop n bytes) ends.skips)

    by_meeting : (bytes ≡ print_response ends.printed ++ drop n bytes)
        ⊎ (BeginsSkipped bytes ⊎ BeginsSkipped (print_response ends.printed ++ drop n bytes))
        → (head ≡ head_of printed) × (take n bytes ≡ print_response printed)
    by_meeting (inl one) =
        let heads : printed ≡ ends.printed =
        head-one printed ends.printed body (drop n bytes) is.head ends.valid.head (sym same ∙ one) in (
          ends.head_is ∙ ap (λ (k : ResponseHead). head_of k) (sym heads),
          append_cancel_right (take n bytes) (print_response printed) (drop n bytes)
              (take-append-drop n bytes ∙ one
              ∙ ap (λ (k : ResponseHead). print_response k ++ drop n bytes) (sym heads)),
        )
    by_meeting (inr (inl begins)) = absurd (final-not-skipped printed body is passed (subst BeginsSkipped same begins))
    by_meeting (inr (inr begins)) =
        absurd (final-not-skipped ends.printed (drop n bytes) ends.valid ends.final begins)

pub reply-heard : RepliesAreHeard
reply-heard reply head behind is has =
    let printed : ResponseHead = printed_of reply in
    let found : (head ≡ head_of printed) × (take has.n has.bytes ≡ print_response printed) =
    final-is has.bytes reply.body printed head has.n (has.are_all ∙ reply-parts reply) (printed-valid reply is)
    (not-skipped reply is) has.ends.final in
    let rest : has.left.0 ≡ reply.body =
    append_cancel_left (print_response printed) has.left.0 reply.body
    (ap (λ (l : List ℕ). l ++ has.left.0) (sym found.1) ∙ sym has.left.2 ∙ reply-parts reply) in
    (found.0 ∙ head-is reply is, has.left.1 ∙ ap Some rest)

-- ---- a head is there

-- a beginning of a shortest block is no block, nor is a beginning of it
quiet-front : (text : List ℕ) (m k : ℕ) → IsShortestBlock text → m < length text
    → is_block (take k (take m text)) ≡ false
quiet-front text m k block before = by_order (cases_lt k m)
  where
    by_order : (k < m) ⊎ (m ≤ k) → is_block (take k (take m text)) ≡ false
    by_order (inl less) =
        ap (λ (l : List ℕ). is_block l) (take-take k m text (omega (arith, less)))
        ∙ block.shortest k (omega (arith, less, before))
    by_order (inr more) =
        ap (λ (l : List ℕ). is_block l) (take_all k (take m text) (omega (arith, more, length-take m text)))
        ∙ block.shortest m before

-- before a shortest block ends nothing decides
decides-late : (text more : List ℕ) (m : ℕ) → IsShortestBlock text → m < length text
    → ¬ (Decides (take m (text ++ more)))
decides-late text more m block before decides =
    undecided (take m text) (take m text) (skips-none (take m text)) (λ (k : ℕ). quiet-front text m k block before) m
    (subst (λ (l : List ℕ). Decides l)
    (take-append-le m text more (omega (arith, before))
    ∙ sym (take_all m (take m text) (omega (arith, length-take m text)))) decides)

-- the head of a reply ends where its bytes decide
reply-final : (reply : Reply) → IsPlainReply reply → length (reply_bytes reply) ≤ most_bytes
    → IsFinal (reply_bytes reply) (head_of (printed_of reply)) (length (print_response (printed_of reply)))
reply-final reply is few =
    let printed : ResponseHead = printed_of reply in
    let text : List ℕ = print_response printed in
    let front : take (length text) (reply_bytes reply) ≡ text =
    ap (λ (l : List ℕ). take (length text) l) (reply-parts reply) ∙ take_at text reply.body (length text) refl in
    let within : length text ≤ length (reply_bytes reply) =
    omega (arith, ap length (reply-parts reply), length-append text reply.body) in
    let ends : EndsFinal (take (length text) (reply_bytes reply)) (head_of printed) =
    subst (λ (l : List ℕ). EndsFinal l (head_of printed)) (sym front) (record {
      printed = printed;
      skips = skips-none text;
      valid = printed-valid reply is;
      final = not-skipped reply is;
      head_is = refl;
    }) in
    record {
      decided = record {
        within = within;
        few = omega (arith, within, few);
        decides = inl (head_of printed, ends);
        shortest = λ (m : ℕ) before decides.
            decides-late text reply.body m (head-shortest printed (printed-valid reply is).head) before
            (subst (λ (l : List ℕ). Decides (take m l)) (reply-parts reply) decides);
      };
      final = ends;
    }

pub reply-has-head : RepliesHaveHeads
reply-has-head reply is few = (
  λ none.
      let printed : ResponseHead = printed_of reply in
      let n : ℕ = length (print_response printed) in
      let found : IsFinal none.bytes (head_of printed) n =
      subst (λ (l : List ℕ). IsFinal l (head_of printed) n) (sym none.are_all) (reply-final reply is few) in
      let one : bad ≡ final (head_of printed) n =
      head-end-one none.bytes bad (final (head_of printed) n) none.ends found in (cc),
  λ none. omega (arith, none.ends.long, ap length none.are_all, few),
)
