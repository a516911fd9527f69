-- What a reader of heads keeps of the bytes so far, and what it finds in a block.
use Rattle.std.specs.Prelude.{◌≡◌, ◌==◌, ℕ, ◌≤◌, false, List, [], ◌∷◌, ◌++◌, ◌+◌, take, length}
use Rattle.std.specs.List.{count_by, list_any}
use Rattle.httparse.specs.Grammar.{ResponseHead, print_response, status_code}
use Rattle.value_text.specs.Texts.{Text}
use Rattle.value_text.specs.Ascii.{line_feed}
use Rattle.value_headers.specs.declared.headers.Header.{Header}
use Rattle.value_headers.specs.Headers.{appended}
use Rattle.link_http1.specs.Answers.{most_bytes}
use Rattle.link_http1.specs.Blocks.{is_block, is_line_byte}
use Rattle.link_http1.specs.Heads.{head_of, is_skipped, IsHead, IsSkippedHead, Skips}
use Rattle.link_http1.specs.declared.block.Judged.{Judged}
use Rattle.link_http1.specs.declared.block.Judged.TheVariants as judged
use Rattle.link_http1.specs.declared.head.HeadReader.TheInside.{Inside}

-- the reader has dropped the skipped heads, and the block after them is not at its end
pub record IsReading (reader : Inside) : Type 0 where
  pub skips : Skips reader.past.bytes []
  pub undecided : (n : ℕ) → is_block (take n reader.block) ≡ false
  pub line_is : reader.has_line_byte ≡ list_any is_line_byte reader.block
  pub seen_is : reader.seen_bytes ≡ length reader.past.bytes + length reader.block
  pub short : reader.seen_bytes ≤ most_bytes

-- a line: LF comes at its end, if at all
pub record IsLine (line : Text) : Type 0 where
  pub front : Text
  pub last : ℕ
  pub whole : line ≡ front ++ last ∷ []
  pub no_end : list_any (λ byte. byte == line_feed) front ≡ false

-- header lines after these headers: names, and values as they are
abbrev pub with_pairs : List Header → List (Text × Text) → List Header
with_pairs headers [] = headers
with_pairs headers (pair ∷ pairs) = with_pairs (appended pair.0 pair.1 headers) pairs

-- how many line ends there are
abbrev pub line_ends : Text → ℕ
line_ends bytes = count_by (λ byte. byte == line_feed) bytes

-- a head that the block is has so many header lines at most
abbrev pub HasRoom : Text → ℕ → Type 0
HasRoom block room =
    (printed : ResponseHead) → IsHead printed → block ≡ print_response printed → length printed.fields ≤ room

-- the block is no head, a skipped one, or a final one
abbrev pub IsJudged : Text → Judged → Type 0
IsJudged block judged.NoHead = (printed : ResponseHead) → IsHead printed → ¬ (block ≡ print_response printed)
IsJudged block judged.Skipped = (printed : ResponseHead) × IsSkippedHead printed × (block ≡ print_response printed)
IsJudged block (judged.Final head) =
    (printed : ResponseHead) × IsHead printed × (is_skipped (status_code printed) ≡ false)
    × (block ≡ print_response printed) × (head ≡ head_of printed)
