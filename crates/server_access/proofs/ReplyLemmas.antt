-- The replies of a server with an allow table: they are plain and few bytes, and what the engine reads of their
-- headers.
use Rattle.std.proofs.Common.{◌≡◌, ℕ, ◌+◌, ◌≤◌, Bool, true, false, not, ◌&&◌, ◌||◌, List, [], ◌∷◌, ◌++◌}
use Rattle.std.proofs.Common.{length, map, codes, refl, ap, ◌∙◌, arith}
use Rattle.std.proofs.Common.{if◌then◌else◌, option_map, length-append, flat_map, nat_lt, decimal, bytes_eq}
use Rattle.std.proofs.lemmas.Fmt.{length-decimal-le_succ}
use Rattle.std.proofs.lemmas.Grind.{common_steps}
use Rattle.std.specs.List.{AllByRecursion, join_with_byte, list_all}
use Rattle.value_lemmas.proofs.Lists.{AllByRecursion-append}
use Rattle.httparse.specs.Grammar.{is_value_byte}
use Rattle.value_text.specs.Ascii.{comma}
use Rattle.value_text.specs.Tokens.{is_tchar, is_token}
use Rattle.value_text.specs.Wildcards.{has_wildcard, is_wildcard}
use Rattle.value_headers.specs.declared.headers.Header.{Header}
use Rattle.value_headers.specs.Headers.{joined, values_of}
use Rattle.value_lists.specs.Split.{split}
use Rattle.value_requests.specs.declared.hop.Head.{Head}
use Rattle.value_requests.specs.declared.response.BodyEnd.{BodyEnd}
use Rattle.value_requests.specs.declared.response.BodyEnd.TheVariants.{TooBig, Whole}
use Rattle.value_requests.specs.Lines.{header}
use Rattle.link_http1.specs.Answers.{most_bytes}
use Rattle.link_http1.specs.Framings.{by_coding, by_length, framing_of}
use Rattle.link_http1.specs.Requests.{header_line}
use Rattle.link_http1.specs.declared.framing.Framing.TheVariants as framing
use Rattle.server_tables.specs.Reading.{may_be_listed, most_in_line}
use Rattle.server_tables.specs.Served.{Reply, allowed, content_length, credentials_header, list_header, refused}
use Rattle.server_tables.specs.Served.{reply_bytes, served, status_line, vary}
use Rattle.server_tables.specs.declared.table.Row.{Row}
use Rattle.server_heard.specs.Heard.{IsPlainReply, as_read}
use Rattle.server_access.specs.Access.{IsRow}
use Rattle.server_access.proofs.CorsLemmas.{Allows, AreListed, Grants, allow_credentials, allow_methods, allow_names}
use Rattle.server_access.proofs.CorsLemmas.{allow_origin, credentials_value}
use Rattle.server_access.proofs.HttpLemmas.{sts}
use Rattle.server_access.proofs.ListLemmas.{each-contained}
use Rattle.server_access.proofs.ReadLemmas.{list-read, read_value, values-read}
use Rattle.server_access.proofs.TokenLemmas.{all-joined, list_value}

-- what the engine reads of a reply
abbrev pub head_by : Reply → Head
head_by reply = record { status = reply.status; headers = as_read [] reply.headers }

-- ---- what may be listed

listed-parts : (texts : List (List ℕ)) → list_all may_be_listed texts ≡ true → AreListed texts
listed-parts [] all = record { tokens = refl; no_wildcard = refl }
listed-parts (text ∷ texts) all =
    by-tests (is_token text) (is_wildcard text) refl refl all (listed-parts texts)
  where
    by-tests : (a b : Bool) → is_token text ≡ a → is_wildcard text ≡ b
        → ((a && not b) && list_all may_be_listed texts) ≡ true
        → (list_all may_be_listed texts ≡ true → AreListed texts) → AreListed (text ∷ texts)
    by-tests true false p q more rest =
        let later = rest more in
        record {
          tokens = ap (λ (b : Bool). b && list_all is_token texts) p ∙ later.tokens;
          no_wildcard = ap (λ (b : Bool). b || has_wildcard texts) q ∙ later.no_wildcard;
        }
    by-tests true true p q more rest = absurd (cc)
    by-tests false b p q more rest = absurd (cc)

pub row-methods : (row : Row) → IsRow row → AreListed row.methods
row-methods row is = listed-parts row.methods is.methods

pub row-names : (row : Row) → IsRow row → AreListed row.names
row-names row is = listed-parts row.names is.names

-- ---- the headers of the replies to an origin

-- what is granted, and then more
abbrev pub granting : List ℕ → Bool → List Header → List Header
granting origin credentials more =
    (vary ∷ header (codes "Access-Control-Allow-Origin") origin ∷ credentials_header credentials) ++ more

-- what is allowed
abbrev pub allowing : List ℕ → Bool → List (List ℕ) → List (List ℕ) → List Header
allowing origin credentials methods names =
    granting origin credentials
    (list_header (codes "Access-Control-Allow-Methods") methods
    ++ list_header (codes "Access-Control-Allow-Headers") names)

-- a fact of credentials, methods and names by cases
by-parts : (P : Bool → List (List ℕ) → List (List ℕ) → Type 0)
    → ((m : List ℕ) (ms : List (List ℕ)) (n : List ℕ) (ns : List (List ℕ))
    → P true [] [] × P true [] (n ∷ ns) × P true (m ∷ ms) [] × P true (m ∷ ms) (n ∷ ns)
    × P false [] [] × P false [] (n ∷ ns) × P false (m ∷ ms) [] × P false (m ∷ ms) (n ∷ ns))
    → (credentials : Bool) (methods names : List (List ℕ)) → P credentials methods names
by-parts P all true [] [] = (all [] [] [] []).0
by-parts P all true [] (n ∷ ns) = (all [] [] n ns).1
by-parts P all true (m ∷ ms) [] = (all m ms [] []).2
by-parts P all true (m ∷ ms) (n ∷ ns) = (all m ms n ns).3
by-parts P all false [] [] = (all [] [] [] []).4
by-parts P all false [] (n ∷ ns) = (all [] [] n ns).5
by-parts P all false (m ∷ ms) [] = (all m ms [] []).6
by-parts P all false (m ∷ ms) (n ∷ ns) = (all m ms n ns).7

by-credentials : (P : Bool → Type 0) → (credentials : Bool) → P true → P false → P credentials
by-credentials P true with without = with
by-credentials P false with without = without

credentials-read : (credentials : Bool)
    → map read_value (credentials_value credentials) ≡ credentials_value credentials
credentials-read true = refl
credentials-read false = refl

-- the values of a name in a head, by those in the reply
values-are : (name : List ℕ) (reply : Reply) (values : List (List ℕ)) → values_of name reply.headers ≡ values
    → map read_value values ≡ values → values_of name (head_by reply).headers ≡ values
values-are name reply values is read =
    values-read name reply.headers ∙ ap (map read_value) is ∙ read

module _ (row : Row) (is : IsRow row) (origin_read : read_value row.origin ≡ row.origin) where
  origin-read : map read_value (row.origin ∷ []) ≡ row.origin ∷ []
  origin-read = ap (λ (t : List ℕ). t ∷ []) origin_read

  -- the head of the answer to a preflight
  pub allowed-allows : Allows row.origin row.credentials row.methods row.names (head_by (allowed row))
  allowed-allows = record {
    grants = record {
      origin_is = values-are allow_origin (allowed row) (row.origin ∷ [])
          (by-parts (λ c ms ns. values_of allow_origin (allowing row.origin c ms ns) ≡ row.origin ∷ [])
          (λ m ms n ns. (refl, refl, refl, refl, refl, refl, refl, refl)) row.credentials row.methods row.names)
          origin-read;
      credentials_are = values-are allow_credentials (allowed row) (credentials_value row.credentials)
          (by-parts (λ c ms ns. values_of allow_credentials (allowing row.origin c ms ns) ≡ credentials_value c)
          (λ m ms n ns. (refl, refl, refl, refl, refl, refl, refl, refl)) row.credentials row.methods row.names)
          (credentials-read row.credentials);
    };
    status_is = refl;
    methods_are = values-are allow_methods (allowed row) (list_value row.methods)
        (by-parts (λ c ms ns. values_of allow_methods (allowing row.origin c ms ns) ≡ list_value ms)
        (λ m ms n ns. (refl, refl, refl, refl, refl, refl, refl, refl)) row.credentials row.methods row.names)
        (list-read row.methods (row-methods row is).tokens);
    names_are = values-are allow_names (allowed row) (list_value row.names)
        (by-parts (λ c ms ns. values_of allow_names (allowing row.origin c ms ns) ≡ list_value ns)
        (λ m ms n ns. (refl, refl, refl, refl, refl, refl, refl, refl)) row.credentials row.methods row.names)
        (list-read row.names (row-names row is).tokens);
  }

  pub allowed-silent : values_of sts (head_by (allowed row)).headers ≡ []
  allowed-silent =
      values-are sts (allowed row) []
      (by-parts (λ c ms ns. values_of sts (allowing row.origin c ms ns) ≡ [])
      (λ m ms n ns. (refl, refl, refl, refl, refl, refl, refl, refl)) row.credentials row.methods row.names) refl

  -- the head of the answer to a request that is served
  served-values : (name : List ℕ) (values : List (List ℕ)) (method : List ℕ)
      → values_of name (granting row.origin true (content_length (codes "2") ∷ [])) ≡ values
      → values_of name (granting row.origin false (content_length (codes "2") ∷ [])) ≡ values
      → map read_value values ≡ values → values_of name (head_by (served row method)).headers ≡ values
  served-values name values method with without read =
      values-are name (served row method) values
      (by-credentials (λ c. values_of name (granting row.origin c (content_length (codes "2") ∷ [])) ≡ values)
      row.credentials with without) read

  pub served-grants : (method : List ℕ)
      → Grants row.origin row.credentials (head_by (served row method)).headers
  served-grants method = record {
    origin_is = served-values allow_origin (row.origin ∷ []) method refl refl origin-read;
    credentials_are = values-are allow_credentials (served row method) (credentials_value row.credentials)
        (by-credentials
        (λ c. values_of allow_credentials (granting row.origin c (content_length (codes "2") ∷ []))
        ≡ credentials_value c) row.credentials refl refl)
        (credentials-read row.credentials);
  }

  pub served-silent : (method : List ℕ) → values_of sts (head_by (served row method)).headers ≡ []
  served-silent method = served-values sts [] method refl refl refl

  pub served-uncoded : (method : List ℕ)
      → values_of (codes "Content-Encoding") (head_by (served row method)).headers ≡ []
  served-uncoded method = served-values (codes "Content-Encoding") [] method refl refl refl

  -- its body has two bytes
  pub served-framing : (method : List ℕ) → framing_of (head_by (served row method)) ≡ framing.Length 2
  served-framing method =
      ap (λ (values : List (List ℕ)). by_coding (joined values) (head_by (served row method)).headers)
      (served-values (codes "Transfer-Encoding") [] method refl refl refl)
      ∙ ap (λ (values : List (List ℕ)). by_length (option_map split (joined values)))
      (served-values (codes "Content-Length") (codes "2" ∷ []) method refl refl refl)

-- how it ends where it is `ok`
abbrev pub ok_end : ℕ → BodyEnd
ok_end limit = if nat_lt limit 2 then TooBig else Whole (codes "ok")

-- the head of a refusal
pub refused-origin : values_of allow_origin (head_by refused).headers ≡ []
refused-origin = values-read allow_origin refused.headers

pub refused-silent : values_of sts (head_by refused).headers ≡ []
refused-silent = values-read sts refused.headers

-- ---- plain replies

abbrev IsPlainLine : Header → Type 0
IsPlainLine one = (is_token one.name ≡ true) × (list_all is_value_byte one.value ≡ true)

tchar-value : (byte : ℕ) → is_tchar byte ≡ true → is_value_byte byte ≡ true
tchar-value byte is = grind (arith, common_steps)

joined-value : (text : List ℕ) (texts : List (List ℕ)) → list_all is_token (text ∷ texts) ≡ true
    → list_all is_value_byte (join_with_byte comma (text ∷ texts)) ≡ true
joined-value text texts all = all-joined is_value_byte refl tchar-value text texts all

list-plain : (name : List ℕ) (texts : List (List ℕ)) → is_token name ≡ true → list_all is_token texts ≡ true
    → AllByRecursion IsPlainLine (list_header name texts)
list-plain name [] token all = tt
list-plain name (text ∷ texts) token all = ((token, joined-value text texts all), tt)

granting-plain : (origin : List ℕ) (credentials : Bool) (more : List Header) → list_all is_value_byte origin ≡ true
    → AllByRecursion IsPlainLine more → AllByRecursion IsPlainLine (granting origin credentials more)
granting-plain origin true more plain each = ((refl, refl), ((refl, plain), ((refl, refl), each)))
granting-plain origin false more plain each = ((refl, refl), ((refl, plain), each))

few-lines : (credentials : Bool) (methods names : List (List ℕ)) (origin : List ℕ)
    → length (allowing origin credentials methods names) ≤ 128
few-lines credentials methods names origin =
    by-parts (λ c ms ns. length (allowing origin c ms ns) ≤ 128)
    (λ m ms n ns. (
      omega arith,
      omega arith,
      omega arith,
      omega arith,
      omega arith,
      omega arith,
      omega arith,
      omega
          arith,
    )) credentials methods names

module _ (row : Row) (is : IsRow row) (plain : list_all is_value_byte row.origin ≡ true) where
  pub allowed-plain : IsPlainReply (allowed row)
  allowed-plain = record {
    low = omega arith;
    high = omega arith;
    reason = refl;
    few = few-lines row.credentials row.methods row.names row.origin;
    lines = each-contained IsPlainLine (allowed row).headers
        (granting-plain row.origin row.credentials _ plain
        (AllByRecursion-append IsPlainLine (list_header (codes "Access-Control-Allow-Methods") row.methods)
        (list_header (codes "Access-Control-Allow-Headers") row.names)
        (list-plain (codes "Access-Control-Allow-Methods") row.methods refl (row-methods row is).tokens)
        (list-plain (codes "Access-Control-Allow-Headers") row.names refl (row-names row is).tokens)));
  }

  pub served-plain : (method : List ℕ) → IsPlainReply (served row method)
  served-plain method = record {
    low = omega arith;
    high = omega arith;
    reason = refl;
    few = by-credentials (λ c. length (granting row.origin c (content_length (codes "2") ∷ [])) ≤ 128)
        row.credentials (omega arith) (omega arith);
    lines = each-contained IsPlainLine (served row method).headers
        (granting-plain row.origin row.credentials (content_length (codes "2") ∷ []) plain ((refl, refl), tt));
  }

pub refused-plain : IsPlainReply refused
refused-plain = record {
  low = omega arith;
  high = omega arith;
  reason = refl;
  few = omega arith;
  lines = each-contained IsPlainLine refused.headers ((refl, refl), ((refl, refl), tt));
}

-- ---- few bytes

-- how many bytes a header line has
abbrev line_size : Header → ℕ
line_size one = length one.name + (length one.value + 4)

-- and all of them
abbrev lines_size : List Header → ℕ
lines_size [] = 0
lines_size (one ∷ more) = line_size one + lines_size more

lines-size : (headers : List Header) → length (flat_map header_line headers) ≡ lines_size headers
lines-size [] = refl
lines-size (one ∷ more) =
    omega (
      arith,
      length-append (header_line one) (flat_map header_line more),
      length-append one.name (codes ": " ++ (one.value ++ codes "\r\n")),
      length-append one.value (codes "\r\n"),
      lines-size more,
    )

-- a reply with so few bytes in its parts is short
short : (reply : Reply) → reply.status ≤ 599 → length reply.reason ≤ 16 → lines_size reply.headers ≤ 8192
    → length reply.body ≤ 2 → length (reply_bytes reply) ≤ most_bytes
short reply high reason lines body =
    let rest = codes "\r\n" ++ reply.body in
    omega (
      arith,
      length-append (status_line reply) (flat_map header_line reply.headers ++ rest),
      length-append (flat_map header_line reply.headers) rest,
      length-append (decimal reply.status) (codes " " ++ (reply.reason ++ codes "\r\n")),
      length-append reply.reason (codes "\r\n"),
      length-decimal-le_succ reply.status (omega (arith, high)),
      lines-size reply.headers,
    )

allowing-size : (origin : List ℕ) (credentials : Bool) (methods names : List (List ℕ))
    → length origin + length (join_with_byte comma methods) + length (join_with_byte comma names) ≤ most_in_line
    → lines_size (allowing origin credentials methods names) ≤ 8192
allowing-size origin credentials methods names fits =
    by-parts (λ c ms ns. length origin + length (join_with_byte comma ms) + length (join_with_byte comma ns) ≤ 4096
    → lines_size (allowing origin c ms ns) ≤ 8192)
    (λ m ms n ns. (
      λ f. omega arith,
      λ f. omega arith,
      λ f. omega arith,
      λ f. omega arith,
      λ f. omega arith,
      λ f. omega arith,
      λ f. omega arith,
      λ f. omega arith,
    )) credentials methods names fits

pub allowed-short : (row : Row) → IsRow row → length (reply_bytes (allowed row)) ≤ most_bytes
allowed-short row is =
    short (allowed row) (omega arith) (omega arith)
    (allowing-size row.origin row.credentials row.methods row.names is.fits) (omega arith)

pub served-short : (row : Row) (method : List ℕ) → IsRow row → length (reply_bytes (served row method)) ≤ most_bytes
served-short row method is =
    short (served row method) (omega arith) (omega arith)
    (by-credentials (λ c. lines_size (granting row.origin c (content_length (codes "2") ∷ [])) ≤ 8192)
    row.credentials (omega (arith, is.fits)) (omega (arith, is.fits)))
    (body-short (bytes_eq method (codes "HEAD")))
  where
    body-short : (b : Bool) → length (if b then [] else codes "ok") ≤ 2
    body-short true = omega arith
    body-short false = omega arith

pub refused-short : length (reply_bytes refused) ≤ most_bytes
refused-short = short refused (omega arith) (omega arith) (omega arith) (omega arith)
