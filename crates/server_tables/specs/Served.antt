-- What the server answers to bytes ("served"): by the head of the request that begins them, and by the first row with
-- its origin.
use Rattle.std.specs.Prelude.{◌≡◌, ℕ, Bool, ◌&&◌, List, [], ◌∷◌, ◌++◌, codes, decimal, bytes_eq, Option, Some, None}
use Rattle.std.specs.Prelude.{if◌then◌else◌}
use Rattle.std.specs.List.{flat_map, join_with_byte}
use Rattle.value_text.specs.Texts.{Text}
use Rattle.value_text.specs.Ascii.{comma}
use Rattle.value_headers.specs.declared.headers.Header.{Header}
use Rattle.value_headers.specs.Headers.{combined, contains}
use Rattle.value_requests.specs.Lines.{header}
use Rattle.link_http1.specs.RequestHeads.{IsRead}
use Rattle.link_http1.specs.Requests.{header_line}
use Rattle.link_http1.specs.declared.request_head.Asked.{Asked}
use Rattle.server_tables.specs.Tables.{lists, row_of}
use Rattle.server_tables.specs.declared.table.Row.{Row}

-- an answer: the status and the reason of its first line, its headers, and its body
pub record Reply : Type 0 where
  pub status : ℕ
  pub reason : Text
  pub headers : List Header
  pub body : Text

-- the first line of an answer
abbrev pub status_line : Reply → Text
status_line reply = codes "HTTP/1.1 " ++ (decimal reply.status ++ (codes " " ++ (reply.reason ++ codes "\r\n")))

-- the bytes of an answer: its first line, its headers on a line each, an empty line and its body
abbrev pub reply_bytes : Reply → Text
reply_bytes reply = status_line reply ++ (flat_map header_line reply.headers ++ (codes "\r\n" ++ reply.body))

-- ---- headers

abbrev pub vary : Header
vary = header (codes "Vary") (codes "Origin")

abbrev pub content_length : Text → Header
content_length digits = header (codes "Content-Length") digits

-- with credentials, where the row has them
abbrev pub credentials_header : Bool → List Header
credentials_header credentials =
    if credentials then header (codes "Access-Control-Allow-Credentials") (codes "true") ∷ [] else []

-- what lets a page of the row's origin read the answer
abbrev pub granted : Row → List Header
granted row =
    vary ∷ header (codes "Access-Control-Allow-Origin") row.origin ∷ credentials_header row.credentials

-- texts with a comma between, where there are some
abbrev pub list_header : Text → List Text → List Header
list_header name [] = []
list_header name (text ∷ texts) = header name (join_with_byte comma (text ∷ texts)) ∷ []

-- ---- answers

-- to bytes that begin with no request head
abbrev pub bad : Reply
bad = record { status = 400; reason = codes "Bad"; headers = content_length (codes "0") ∷ []; body = [] }

-- to an origin that has no row, and to a method that its row does not list
abbrev pub refused : Reply
refused = record {
  status = 403;
  reason = codes "Refused";
  headers = vary ∷ content_length (codes "0") ∷ [];
  body = [];
}

-- to a preflight
abbrev pub allowed : Row → Reply
allowed row = record {
  status = 204;
  reason = codes "Allowed";
  headers = granted row
      ++ (list_header (codes "Access-Control-Allow-Methods") row.methods
      ++ list_header (codes "Access-Control-Allow-Headers") row.names);
  body = [];
}

-- the body: `ok`, and none for HEAD
abbrev pub body_for : Text → Text
body_for method = if bytes_eq method (codes "HEAD") then [] else codes "ok"

-- to a request with a method that the row lists
abbrev pub served : Row → Text → Reply
served row method = record {
  status = 200;
  reason = codes "Served";
  headers = granted row ++ content_length (codes "2") ∷ [];
  body = body_for method;
}

-- ---- which

-- the request is a preflight
abbrev pub is_preflight : Asked → Bool
is_preflight asked =
    bytes_eq asked.method (codes "OPTIONS") && contains (codes "Access-Control-Request-Method") asked.headers

-- by the first row with the request's origin
abbrev pub by_row : Row → Asked → Reply
by_row row asked =
    if is_preflight asked then allowed row
    else if lists row.methods asked.method then served row asked.method
    else refused

-- the same, where one has it
abbrev pub by_found : Option Row → Asked → Reply
by_found None asked = refused
by_found (Some row) asked = by_row row asked

-- by the origin that the request tells
abbrev pub by_origin : List Row → Option Text → Asked → Reply
by_origin table None asked = refused
by_origin table (Some origin) asked = by_found (row_of table origin) asked

-- by the request head that begins the bytes
abbrev pub reply_to : List Row → Option Asked → Reply
reply_to table None = bad
reply_to table (Some asked) = by_origin table (combined (codes "Origin") asked.headers) asked

-- this is the reply to the bytes
abbrev pub IsReply : List Row → Text → Reply → Type 0
IsReply table bytes reply = (asked : Option Asked) × IsRead bytes asked × (reply ≡ reply_to table asked)

-- "served": this is the answer to the bytes
abbrev pub IsServed : List Row → Text → Text → Type 0
IsServed table bytes answer = (reply : Reply) × IsReply table bytes reply × (answer ≡ reply_bytes reply)

-- one reply is that to the bytes
abbrev pub HasOneReply : Type 0
HasOneReply = (table : List Row) (bytes : Text) (a b : Reply) → IsReply table bytes a → IsReply table bytes b → a ≡ b
