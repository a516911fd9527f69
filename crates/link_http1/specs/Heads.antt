-- Heads of answers: the final one, and the informational ones before it (RFC 9112, section 4; RFC 9110,
-- section 15.2). The grammar of `httparse` says what a response head is.
use Rattle.std.specs.Prelude.{◌≡◌, ℕ, ◌≤◌, Bool, true, false, not, ◌&&◌, ◌==◌, nat_le, List, [], ◌∷◌, ◌++◌, length}
use Rattle.std.specs.List.{All, flat_map}
use Rattle.httparse.specs.Grammar.{Field, ResponseHead, IsResponseHead, print_response, status_code}
use Rattle.value_text.specs.Texts.{Text}
use Rattle.value_text.specs.Trims.{http_whitespace, trimmed}
use Rattle.value_headers.specs.declared.headers.Header.{Header}
use Rattle.value_headers.specs.Headers.{appended}
use Rattle.value_requests.specs.declared.hop.Head.{Head}
use Rattle.link_http1.specs.Blocks.{IsShortestBlock}

-- how many header lines a head has at most
abbrev pub most_lines : ℕ
most_lines = 128

-- a response head with so many header lines at most
pub record IsHead (printed : ResponseHead) : Type 0 where
  pub head : IsResponseHead printed
  pub few : length printed.fields ≤ most_lines

-- header lines after these headers: each is appended, with its value normalised (Fetch, section 2.2.2)
abbrev pub with_lines : List Header → List Field → List Header
with_lines headers [] = headers
with_lines headers (line ∷ lines) = with_lines (appended line.name (trimmed http_whitespace line.raw) headers) lines

-- the status and the header list of a head
abbrev pub head_of : ResponseHead → Head
head_of head = record { status = status_code head; headers = with_lines [] head.fields }

-- a head with this status is skipped: it is informational, and no switch of protocols
abbrev pub is_skipped : ℕ → Bool
is_skipped status = nat_le 100 status && nat_le status 199 && not (status == 101)

-- a head that is skipped
pub record IsSkippedHead (printed : ResponseHead) : Type 0 where
  pub head : IsHead printed
  pub skipped : is_skipped (status_code printed) ≡ true

-- the bytes are skipped heads, and then the rest
pub record Skips (bytes rest : Text) : Type 0 where
  pub heads : List ResponseHead
  pub each : All IsSkippedHead heads
  pub whole : bytes ≡ flat_map print_response heads ++ rest

-- the bytes begin with a skipped head
abbrev pub BeginsSkipped : Text → Type 0
BeginsSkipped bytes =
    (head : ResponseHead) × (rest : Text) × IsSkippedHead head × (bytes ≡ print_response head ++ rest)

-- a final head ends where the bytes end; before it there are only skipped heads, if any
pub record EndsFinal (bytes : Text) (head : Head) : Type 0 where
  pub printed : ResponseHead
  pub skips : Skips bytes (print_response printed)
  pub valid : IsHead printed
  pub final : is_skipped (status_code printed) ≡ false
  pub head_is : head ≡ head_of printed

-- a block ends where the bytes end: it begins where the skipped heads end
pub record EndsBlock (bytes : Text) : Type 0 where
  pub block : Text
  pub skips : Skips bytes block
  pub last : ¬ (BeginsSkipped block)
  pub shortest : IsShortestBlock block
