-- What each end of a connection hears of the other: a server of the bytes of a request, and the engine of the bytes of
-- a reply (RFC 9112; this project's own statement of the two readings of one text).
use Rattle.std.specs.Prelude.{◌≡◌, ◌≤◌, true, List, [], ◌∷◌, length, Contains, Option, Some}
use Rattle.std.specs.List.{list_all}
use Rattle.httparse.specs.Grammar.{is_value_byte}
use Rattle.value_text.specs.Texts.{Text}
use Rattle.value_text.specs.Tokens.{is_token}
use Rattle.value_text.specs.Trims.{http_whitespace, trimmed}
use Rattle.value_headers.specs.declared.headers.Header.{Header}
use Rattle.value_headers.specs.Headers.{appended}
use Rattle.value_requests.specs.declared.hop.Head.{Head}
use Rattle.value_requests.specs.declared.hop.Hop.{Hop}
use Rattle.value_requests.specs.Targets.{IsSendable}
use Rattle.link_http1.specs.Answers.{bad, long, most_bytes}
use Rattle.link_http1.specs.Blocks.{is_line_byte}
use Rattle.link_http1.specs.RequestHeads.{IsRead}
use Rattle.link_http1.specs.Requests.{request_bytes}
use Rattle.link_http1.specs.declared.request_head.Asked.{Asked}
use Rattle.fetch_wire.specs.Exchanges.{HasHead, HasNoHead}
use Rattle.server_tables.specs.Served.{Reply, reply_bytes}

-- headers after these, as they are read: each is appended, with its value's white space trimmed
abbrev pub as_read : List Header → List Header → List Header
as_read before [] = before
as_read before (one ∷ more) = as_read (appended one.name (trimmed http_whitespace one.value) before) more

-- a header whose line is one: its name is a token, and its value has neither CR nor LF
pub record IsLine (one : Header) : Type 0 where
  pub name : is_token one.name ≡ true
  pub value : list_all is_line_byte one.value ≡ true

-- a request whose method and target have no space, and whose header lines are lines
pub record IsWritten (hop : Hop) : Type 0 where
  pub sendable : IsSendable hop
  pub method : is_token hop.method ≡ true
  pub lines : (one : Header) → Contains hop.headers one → IsLine one

-- A server that reads the request's head hears its method and its headers.
abbrev pub RequestsAreHeard : Type 0
RequestsAreHeard =
    (hop : Hop) (asked : Asked) → IsWritten hop → IsRead (request_bytes hop) (Some asked)
    → asked ≡ record { method = hop.method; headers = as_read [] hop.headers }

-- a reply with a final status of three digits, whose header lines are lines without control bytes, 128 at most
pub record IsPlainReply (reply : Reply) : Type 0 where
  pub low : 200 ≤ reply.status
  pub high : reply.status ≤ 599
  pub reason : list_all is_value_byte reply.reason ≡ true
  pub few : length reply.headers ≤ 128
  pub lines : (one : Header) → Contains reply.headers one
      → (is_token one.name ≡ true) × (list_all is_value_byte one.value ≡ true)

-- Where the bytes to come are those of a reply, their head is the reply's status and headers, and its body is to come
-- then.
abbrev pub RepliesAreHeard : Type 0
RepliesAreHeard =
    (reply : Reply) (head : Head) (behind : Option Text) → IsPlainReply reply
    → HasHead (Some (reply_bytes reply)) head behind
    → (head ≡ record { status = reply.status; headers = as_read [] reply.headers }) × (behind ≡ Some reply.body)

-- Then they have a head: they neither have none, nor too long a one where they are few.
abbrev pub RepliesHaveHeads : Type 0
RepliesHaveHeads =
    (reply : Reply) → IsPlainReply reply → length (reply_bytes reply) ≤ most_bytes
    → (¬ (HasNoHead (Some (reply_bytes reply)) bad)) × (¬ (HasNoHead (Some (reply_bytes reply)) long))
