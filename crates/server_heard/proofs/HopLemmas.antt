-- A server that reads the head of a request hears its method and its headers.
use Rattle.std.proofs.Common.{◌≡◌, ◌==◌, ℕ, not, List, [], ◌∷◌, ◌++◌, refl, ap, sym, ◌∙◌, arith, append_assoc}
use Rattle.std.proofs.Common.{All, Contains, unwrap_or}
use Rattle.std.proofs.lemmas.List.Elements.{All-contains_itself, All-cons, All-head, All-tail, All-weaker}
use Rattle.std.specs.List.{flat_map}
use Rattle.std.specs.Prelude.{codes, IsTrue}
use Rattle.httparse.specs.Grammar.{crlf, Field, IsField, IsRequestHead, IsToken, LineEnd, print_end, print_field}
use Rattle.httparse.specs.Grammar.{print_request, print_section, print_version, RequestHead}
use Rattle.httparse.proofs.GrammarLemmas.{print_request-append}
use Rattle.httparse.proofs.PieceLemmas.{Blank_deterministic, Method_deterministic, Name_deterministic}
use Rattle.httparse.proofs.PieceLemmas.{newline_not_stopped, print_end_unique, print_field-append, Stops_token}
use Rattle.httparse.proofs.PieceLemmas.{Stops-FieldLine, Stops-print_end, Version_deterministic}
use Rattle.httparse.proofs.RunLemmas.{run_unique}
use Rattle.value_headers.specs.declared.headers.Header.{Header}
use Rattle.value_headers.specs.Headers.{appended}
use Rattle.value_text.specs.Ascii.{lacks_space}
use Rattle.value_text.specs.Trims.{http_whitespace, trimmed}
use Rattle.value_requests.specs.declared.hop.Hop.{Hop}
use Rattle.link_http1.specs.Blocks.{is_line_byte}
use Rattle.link_http1.specs.Heads.{with_lines}
use Rattle.link_http1.specs.RequestHeads.{BeginsRequest}
use Rattle.link_http1.specs.Requests.{header_line, request_bytes}
use Rattle.server_heard.specs.Heard.{as_read, IsLine, RequestsAreHeard}
use Rattle.server_heard.proofs.TextLemmas.{passes, raw-line, token, uri-lacks_space}

-- ---- the header lines

-- the first header line, and what follows it
pub line-first : (one : Header) (more : List Header) (text : List ℕ) → flat_map header_line (one ∷ more) ++ text
    ≡ one.name ++ 58 ∷ 32 ∷ (one.value ++ 13 ∷ 10 ∷ (flat_map header_line more ++ text))
line-first one more text =
    let rest : List ℕ = flat_map header_line more ++ text in
    append_assoc (header_line one) (flat_map header_line more) text
    ∙ append_assoc one.name (58 ∷ 32 ∷ (one.value ++ 13 ∷ 10 ∷ [])) rest
    ∙ ap (λ (l : List ℕ). one.name ++ 58 ∷ 32 ∷ l) (append_assoc one.value (13 ∷ 10 ∷ []) rest)

-- the first field of a section, and what follows it
pub field-first : (field : Field) (fields : List Field) (last : LineEnd) (rest : List ℕ)
    → print_section (field ∷ fields) last ++ rest ≡ print_field field ++ (print_section fields last ++ rest)
field-first field fields last rest =
    ap (λ (l : List ℕ). l ++ rest) (append_assoc (print_field field) (flat_map print_field fields) (print_end last))
    ∙ append_assoc (print_field field) (print_section fields last) rest

-- a header line that is a field line: it has the name, and the value behind a space
pub record IsFieldOf (one : Header) (field : Field) (behind later : List ℕ) : Type 0 where
  pub name : one.name ≡ field.name
  pub raw : 32 ∷ one.value ≡ field.raw
  pub rest : behind ≡ later

line-heard : (one : Header) (field : Field) (behind later : List ℕ) → IsLine one → IsField field
    → one.name ++ 58 ∷ 32 ∷ (one.value ++ 13 ∷ 10 ∷ behind)
    ≡ field.name ++ 58 ∷ (field.raw ++ (print_end field.end ++ later)) → IsFieldOf one field behind later
line-heard one field behind later is its same =
    let name : IsToken one.name = token one.name is.name in
    let text : List ℕ = one.name ++ 58 ∷ 32 ∷ (one.value ++ 13 ∷ 10 ∷ behind) in
    let first : (one.name ≡ field.name)
    × (32 ∷ (one.value ++ 13 ∷ 10 ∷ behind) ≡ field.raw ++ (print_end field.end ++ later)) =
    Name_deterministic.unique one.name field.name text (32 ∷ (one.value ++ 13 ∷ 10 ∷ behind))
    (field.raw ++ (print_end field.end ++ later)) (name.0, name.1, refl) (its.name.0, its.name.1, same) in
    let raw : (32 ∷ one.value ≡ field.raw) × (13 ∷ 10 ∷ behind ≡ print_end field.end ++ later) =
    run_unique is_line_byte (32 ∷ one.value) field.raw (13 ∷ 10 ∷ behind) (print_end field.end ++ later)
    (All-cons (λ (byte : ℕ). IsTrue (is_line_byte byte)) 32 one.value refl (passes is_line_byte one.value is.value))
    (raw-line field.raw its.raw) refl (Stops-print_end is_line_byte refl refl field.end later) first.1 in
    record { name = first.0; raw = raw.0; rest = (print_end_unique crlf field.end behind later raw.1).1 }

-- the header lines up to an empty one are the fields of the section that begins there
lines-heard : (headers : List Header) (fields : List Field) (last : LineEnd) (rest body : List ℕ) (before : List Header)
    → All IsLine headers → All IsField fields
    → flat_map header_line headers ++ 13 ∷ 10 ∷ body ≡ print_section fields last ++ rest
    → with_lines before fields ≡ as_read before headers
lines-heard [] [] last rest body before lines all same = refl
lines-heard [] (field ∷ fields) last rest body before lines all same =
    let later : List ℕ = print_section fields last ++ rest in
    absurd (newline_not_stopped crlf body (print_field field ++ later) (same ∙ field-first field fields last rest)
    (Stops-FieldLine field (print_field field ++ later) later (All-head IsField field fields all, refl)))
lines-heard (one ∷ more) [] last rest body before lines all same =
    let name : IsToken one.name = token one.name (All-head IsLine one more lines).name in
    let text : List ℕ = 58 ∷ 32 ∷ (one.value ++ 13 ∷ 10 ∷ (flat_map header_line more ++ 13 ∷ 10 ∷ body)) in
    absurd (newline_not_stopped last rest (one.name ++ text) (sym same ∙ line-first one more (13 ∷ 10 ∷ body))
    (Stops_token one.name text name.0 name.1))
lines-heard (one ∷ more) (field ∷ fields) last rest body before lines all same =
    let behind : List ℕ = flat_map header_line more ++ 13 ∷ 10 ∷ body in
    let later : List ℕ = print_section fields last ++ rest in
    let first : IsFieldOf one field behind later =
    line-heard one field behind later (All-head IsLine one more lines) (All-head IsField field fields all)
    (sym (line-first one more (13 ∷ 10 ∷ body)) ∙ same ∙ field-first field fields last rest
    ∙ print_field-append field later) in
    (λ i. with_lines (appended (sym first.name i) (trimmed http_whitespace (sym first.raw i)) before) fields)
    ∙ lines-heard more fields last rest body (appended one.name (trimmed http_whitespace one.value) before)
    (All-tail IsLine one more lines) (All-tail IsField field fields all) first.rest

-- ---- the first line

-- where a head begins with a request line, its method is that of the line, and its fields follow
pub record IsHeadOf (name lines : List ℕ) (head : RequestHead) (later : List ℕ) : Type 0 where
  pub method : name ≡ head.method
  pub fields : lines ≡ print_section head.fields head.last ++ later

head-heard : (method url rest : List ℕ) (head : RequestHead) (later : List ℕ) → IsToken method
    → IsTrue (lacks_space url) → IsRequestHead head
    → method ++ 32 ∷ (url ++ 32 ∷ (print_version 1 ++ 13 ∷ 10 ∷ rest)) ≡ print_request head ++ later
    → IsHeadOf method rest head later
head-heard method url rest head later name lacks is same =
    let fields : List ℕ = print_section head.fields head.last ++ later in
    let version : List ℕ = print_version 1 ++ 13 ∷ 10 ∷ rest in
    let version' : List ℕ = print_version head.minor ++ (print_end head.line_end ++ fields) in
    let text : List ℕ = method ++ 32 ∷ (url ++ 32 ∷ version) in
    let text' : List ℕ = head.method ++ 32 ∷ (head.target ++ 32 ∷ version') in
    let blank : text ≡ text' =
    (Blank_deterministic.unique [] head.blank text text text' (refl, Stops_token method _ name.0 name.1)
    (same ∙ print_request-append head later, Stops_token head.method _ is.method.0 is.method.1)).1 in
    let first : (method ≡ head.method) × (url ++ 32 ∷ version ≡ head.target ++ 32 ∷ version') =
    Method_deterministic.unique method head.method text (url ++ 32 ∷ version) (head.target ++ 32 ∷ version')
    (name.0, name.1, refl) (is.method.0, is.method.1, blank) in
    let target : (url ≡ head.target) × (32 ∷ version ≡ 32 ∷ version') =
    run_unique (λ (byte : ℕ). not (byte == 32)) url head.target (32 ∷ version) (32 ∷ version')
    (passes (λ (byte : ℕ). not (byte == 32)) url lacks) (uri-lacks_space head.target is.target.1) refl refl first.1 in
    let behind : version ≡ version' = cc (target.1) in
    let end : (1 ≡ head.minor) × (13 ∷ 10 ∷ rest ≡ print_end head.line_end ++ fields) =
    Version_deterministic.unique 1 head.minor version (13 ∷ 10 ∷ rest) (print_end head.line_end ++ fields)
    (omega arith, refl) (is.minor, behind) in
    record { method = first.0; fields = (print_end_unique crlf head.line_end rest fields end.1).1 }

-- ---- the request

-- the bytes of a request are its line, its header lines and what follows them
request-parts : (hop : Hop) → request_bytes hop
    ≡ hop.method ++ 32 ∷ (hop.url ++ 32 ∷ (print_version 1 ++ 13 ∷ 10
    ∷ (flat_map header_line hop.headers ++ 13 ∷ 10 ∷ unwrap_or hop.body [])))
request-parts hop =
    let lines : List ℕ = flat_map header_line hop.headers ++ 13 ∷ 10 ∷ unwrap_or hop.body [] in
    append_assoc hop.method (codes " " ++ (hop.url ++ codes " HTTP/1.1\r\n")) lines
    ∙ ap (λ (l : List ℕ). hop.method ++ 32 ∷ l) (append_assoc hop.url (codes " HTTP/1.1\r\n") lines)

pub request-heard : RequestsAreHeard
request-heard hop asked written read =
    let head : RequestHead = read.0 in
    let begins : BeginsRequest (request_bytes hop) head = read.1 in
    let lines : List ℕ = flat_map header_line hop.headers ++ 13 ∷ 10 ∷ unwrap_or hop.body [] in
    let heard : IsHeadOf hop.method lines head begins.rest =
    head-heard hop.method hop.url lines head begins.rest (token hop.method written.method) written.sendable.1
    begins.valid.head (sym (request-parts hop) ∙ begins.whole) in
    let list : with_lines [] head.fields ≡ as_read [] hop.headers =
    lines-heard hop.headers head.fields head.last begins.rest (unwrap_or hop.body []) []
    (All-weaker (Contains hop.headers) IsLine written.lines hop.headers (All-contains_itself hop.headers))
    begins.valid.head.fields heard.fields in
    read.2 ∙ (λ i. record { method = sym heard.method i; headers = list i })
