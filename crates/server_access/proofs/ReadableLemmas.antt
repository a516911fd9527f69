-- The bytes of a plain request are those of a request head, and then its body.
use Rattle.std.proofs.Common.{◌≡◌, ℕ, true, List, [], ◌∷◌, ◌++◌, map, Contains, codes, unwrap_or, refl}
use Rattle.std.proofs.Common.{ap, sym, ◌∙◌, arith, append_assoc, flat_map, suc}
use Rattle.std.proofs.lemmas.List.{length-map}
use Rattle.std.proofs.lemmas.List.Elements.{All-from_recursion}
use Rattle.std.specs.List.{AllByRecursion, list_all}
use Rattle.httparse.proofs.GrammarLemmas.{print_request-append}
use Rattle.httparse.proofs.PieceLemmas.{print_field-append}
use Rattle.httparse.specs.Grammar.{crlf, Field, IsField, is_uri_byte, is_value_byte}
use Rattle.httparse.specs.Grammar.{print_request, print_section, print_version, RequestHead}
use Rattle.value_text.specs.Tokens.{is_token}
use Rattle.value_headers.specs.declared.headers.Header.{Header}
use Rattle.value_requests.specs.declared.hop.Hop.{Hop}
use Rattle.link_http1.specs.RequestHeads.{BeginsRequest, asked_of}
use Rattle.link_http1.specs.Requests.{header_line, request_bytes}
use Rattle.server_heard.proofs.HopLemmas.{field-first, line-first}
use Rattle.server_heard.proofs.TextLemmas.{passes, token}
use Rattle.server_access.specs.Access.{PlainHopsAreReadable}

-- the field that a header line is
abbrev field_of : Header → Field
field_of one = record { name = one.name; raw = 32 ∷ one.value; end = crlf }

-- the head of a hop
abbrev head_of : Hop → RequestHead
head_of hop = record {
  blank = [];
  method = hop.method;
  target = hop.url;
  minor = 1;
  line_end = crlf;
  fields = map field_of hop.headers;
  last = crlf;
}

-- ---- its bytes

section-same : (headers : List Header) (body : List ℕ)
    → flat_map header_line headers ++ 13 ∷ 10 ∷ body ≡ print_section (map field_of headers) crlf ++ body
section-same [] body = refl
section-same (one ∷ more) body =
    line-first one more (13 ∷ 10 ∷ body)
    ∙ ap (λ (l : List ℕ). one.name ++ 58 ∷ 32 ∷ (one.value ++ 13 ∷ 10 ∷ l)) (section-same more body)
    ∙ sym (print_field-append (field_of one) (print_section (map field_of more) crlf ++ body))
    ∙ sym (field-first (field_of one) (map field_of more) crlf body)

bytes-same : (hop : Hop) → request_bytes hop ≡ print_request (head_of hop) ++ unwrap_or hop.body []
bytes-same hop =
    let body : List ℕ = unwrap_or hop.body [] in
    let lines : List ℕ = flat_map header_line hop.headers ++ 13 ∷ 10 ∷ body in
    append_assoc hop.method (codes " " ++ (hop.url ++ codes " HTTP/1.1\r\n")) lines
    ∙ ap (λ (l : List ℕ). hop.method ++ 32 ∷ l) (append_assoc hop.url (codes " HTTP/1.1\r\n") lines)
    ∙ ap (λ (l : List ℕ). hop.method ++ 32 ∷ (hop.url ++ 32 ∷ (print_version 1 ++ 13 ∷ 10 ∷ l)))
    (section-same hop.headers body)
    ∙ sym (print_request-append (head_of hop) body)

-- ---- its parts

-- the header line is a field line
abbrev IsPlainLine : Header → Type 0
IsPlainLine one = (is_token one.name ≡ true) × (list_all is_value_byte one.value ≡ true)

fields-are : (headers : List Header) → AllByRecursion IsPlainLine headers
    → AllByRecursion IsField (map field_of headers)
fields-are [] all = tt
fields-are (one ∷ more) all = (
  record { name = token one.name all.0.0; raw = passes is_value_byte (32 ∷ one.value) all.0.1 },
  fields-are more all.1,
)

each-line : (headers : List Header) → ((one : Header) → Contains headers one → IsPlainLine one)
    → AllByRecursion IsPlainLine headers
each-line [] all = tt
each-line (one ∷ more) all = (
  all one (0, omega arith, refl),
  each-line more (λ other at. all other (suc at.0, omega (arith, at.1), at.2)),
)

pub plain-readable : PlainHopsAreReadable
plain-readable hop is =
    let begins : BeginsRequest (request_bytes hop) (head_of hop) = record {
      valid = record {
        head = record {
          method = token hop.method is.method;
          target = (is.some_target, passes is_uri_byte hop.url is.target);
          target_text = is.target_text;
          minor = omega arith;
          fields = All-from_recursion IsField (map field_of hop.headers) (fields-are hop.headers (each-line hop.headers
              is.lines));
        };
        few = omega (arith, is.few, length-map hop.headers field_of);
      };
      rest = unwrap_or hop.body [];
      whole = bytes-same hop;
    } in
    (asked_of (head_of hop), (head_of hop, begins, refl))
