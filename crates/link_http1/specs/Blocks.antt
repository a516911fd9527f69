-- Blocks: lines up to an empty one, as a head is (RFC 9112, section 2.1). That what is no head is told
-- at the end of its block is this project's profile.
use Rattle.std.specs.Prelude.{◌≡◌, ℕ, ◌<◌, Bool, true, false, not, ◌||◌, ◌&&◌, ◌==◌, nat_eq, take, length, codes}
use Rattle.std.specs.List.{list_any, ends_with}
use Rattle.value_text.specs.Texts.{Text}
use Rattle.value_text.specs.Ascii.{carriage_return, line_feed}

-- a byte of a line: neither CR nor LF
abbrev pub is_line_byte : ℕ → Bool
is_line_byte byte = not (byte == carriage_return || byte == line_feed)

-- the bytes hold more than line ends, and end in an empty line
abbrev pub is_block : Text → Bool
is_block bytes =
    list_any is_line_byte bytes
    && (ends_with nat_eq bytes (codes "\n\n") || ends_with nat_eq bytes (codes "\n\r\n"))

-- a block, none of whose beginnings is one
pub record IsShortestBlock (bytes : Text) : Type 0 where
  pub block : is_block bytes ≡ true
  pub shortest : (n : ℕ) → n < length bytes → is_block (take n bytes) ≡ false
