-- Heads of requests (RFC 9112, section 3). The grammar of `httparse` says what a request head is.
use Rattle.std.specs.Prelude.{◌≡◌, ℕ, ◌≤◌, false, [], ◌++◌, length, take, Option, Some, None}
use Rattle.httparse.specs.Grammar.{RequestHead, IsRequestHead, print_request}
use Rattle.value_text.specs.Texts.{Text}
use Rattle.link_http1.specs.Blocks.{is_block, IsShortestBlock}
use Rattle.link_http1.specs.Heads.{most_lines, with_lines}
use Rattle.link_http1.specs.declared.request_head.Asked.{Asked}

-- a request head with so many header lines at most
pub record IsRequest (printed : RequestHead) : Type 0 where
  pub head : IsRequestHead printed
  pub few : length printed.fields ≤ most_lines

-- the method and the header list of a head
abbrev pub asked_of : RequestHead → Asked
asked_of head = record { method = head.method; headers = with_lines [] head.fields }

-- a prefix of the bytes is this head
pub record BeginsRequest (bytes : Text) (printed : RequestHead) : Type 0 where
  pub valid : IsRequest printed
  pub rest : Text
  pub whole : bytes ≡ print_request printed ++ rest

-- what is read of the bytes: what the head asks that a prefix of them is, or nothing where none is one
abbrev pub IsRead : Text → Option Asked → Type 0
IsRead bytes None = (printed : RequestHead) → ¬ (BeginsRequest bytes printed)
IsRead bytes (Some asked) = (printed : RequestHead) × BeginsRequest bytes printed × (asked ≡ asked_of printed)

-- a head is a block, and no beginning of it is one
abbrev pub RequestsAreBlocks : Type 0
RequestsAreBlocks = (head : RequestHead) → IsRequestHead head → IsShortestBlock (print_request head)

-- where no block ends in the bytes, none of their prefixes is a head
abbrev pub NoneBeforeBlock : Type 0
NoneBeforeBlock = (bytes : Text) → ((n : ℕ) → is_block (take n bytes) ≡ false) → IsRead bytes None

-- one thing is read of the bytes
abbrev pub HasOneReading : Type 0
HasOneReading = (bytes : Text) (a b : Option Asked) → IsRead bytes a → IsRead bytes b → a ≡ b

-- what a head asks is read whatever follows the head
abbrev pub ReadingStays : Type 0
ReadingStays =
    (bytes more : Text) (asked : Asked) → IsRead bytes (Some asked) → IsRead (bytes ++ more) (Some asked)
