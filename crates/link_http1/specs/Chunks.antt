-- The chunked transfer coding (RFC 9112, section 7.1), with limits on its lines.
use Rattle.std.specs.Prelude.{ℕ, ◌+◌, Bool, true, false, ◌||◌, ◌&&◌, ◌==◌, zero, suc, nat_le, [], ◌∷◌, ◌++◌}
use Rattle.std.specs.Prelude.{take, drop, length, Option, Some, None, option_map, option_and_then, take_while}
use Rattle.std.specs.Prelude.{if◌then◌else◌}
use Rattle.std.specs.List.{before_first}
use Rattle.std.specs.Char.{is_ascii_hexdigit}
use Rattle.std.specs.Str.Parse.{digits_value}
use Rattle.value_text.specs.Texts.{Text}
use Rattle.value_text.specs.Ascii.{carriage_return, line_feed, semicolon}
use Rattle.value_text.specs.Trims.{tab_or_space, trimmed_start}

-- ---- lines

-- what follows a CRLF; nothing where there is no CRLF at the front
abbrev pub behind_crlf : Text → Option Text
behind_crlf (cr ∷ lf ∷ rest) = if cr == carriage_return && lf == line_feed then Some rest else None
behind_crlf _ = None

-- the bytes up to the first CR or LF
abbrev pub line_of : Text → Text
line_of bytes = before_first (λ byte. byte == carriage_return || byte == line_feed) bytes

-- the line at the front, and what follows its CRLF; nothing where no CRLF ends it
abbrev pub cut_line : Text → Option (Text × Text)
cut_line bytes = option_map (λ rest. (line_of bytes, rest)) (behind_crlf (drop (length (line_of bytes)) bytes))

-- ---- the line of a chunk

-- how many bytes the line of a chunk has at most, with its CRLF
abbrev pub most_line : ℕ
most_line = 4096

-- the hexadecimal digits at the front
abbrev pub size_digits : Text → Text
size_digits line = take_while is_ascii_hexdigit line

-- after the digits and the blanks that follow them, the line ends or has a semicolon and the chunk's extension
abbrev pub is_extension : Text → Bool
is_extension [] = true
is_extension (byte ∷ rest) = byte == semicolon

-- one to sixteen digits, blanks, and an extension
abbrev pub is_size_line : Text → Bool
is_size_line line =
    nat_le 1 (length (size_digits line)) && nat_le (length (size_digits line)) 16
    && is_extension (trimmed_start tab_or_space (drop (length (size_digits line)) line))
    && nat_le (length line + 2) most_line

-- the size that a chunk's line says, and what follows the line
abbrev pub size_and_rest : Text × Text → Option (ℕ × Text)
size_and_rest cut = if is_size_line cut.0 then Some (digits_value 16 (size_digits cut.0), cut.1) else None

-- the same of a chunk's line at the front; nothing where there is none
abbrev pub cut_size : Text → Option (ℕ × Text)
cut_size bytes = option_and_then size_and_rest (cut_line bytes)

-- ---- the trailers

-- how many bytes the trailers have at most, with the empty line that ends them
abbrev pub most_trailers : ℕ
most_trailers = 8192

-- after a line with its CRLF: nothing more where the line is empty, else more lines
abbrev pub behind_trailer : (Text → Option ℕ) → Option (Text × Text) → Option ℕ
behind_trailer more None = None
behind_trailer more (Some cut) =
    if length cut.0 == 0 then Some 2 else option_map (λ n. length cut.0 + 2 + n) (more cut.1)

-- how many bytes the lines up to an empty one have, with it, where it is among the first `most`
abbrev pub trailers_length : ℕ → Text → Option ℕ
trailers_length zero bytes = None
trailers_length (suc most) bytes = behind_trailer (trailers_length most) (cut_line bytes)

-- there are so many bytes, and not too many
abbrev pub are_short : Option ℕ → Bool
are_short None = false
are_short (Some n) = nat_le n most_trailers

-- the bytes begin with trailers
abbrev pub has_trailers : Text → Bool
has_trailers bytes = are_short (trailers_length (length bytes) bytes)

-- ---- the whole

-- What is decoded of a chunked body: the data, and whether they are all.
pub record Decoded : Type 0 where
  pub data_is : Text
  pub complete : Bool

-- nothing more is decoded
abbrev pub broken : Decoded
broken = record { data_is = []; complete = false }

-- data, and then what more is decoded
abbrev pub onto : Text → Decoded → Decoded
onto data_is more = record { data_is = data_is ++ more.data_is; complete = more.complete }

-- after the data of a chunk comes CRLF, and then more chunks
abbrev pub behind_data : (Text → Decoded) → Option Text → Decoded
behind_data more None = broken
behind_data more (Some rest) = more rest

-- after the line of a chunk come so many bytes of data; a chunk of size 0 is the last, and trailers follow it
abbrev pub behind_size : (Text → Decoded) → Option (ℕ × Text) → Decoded
behind_size more None = broken
behind_size more (Some (size, rest)) =
    if size == 0 then record { data_is = []; complete = has_trailers rest }
    else onto (take size rest) (behind_data more (behind_crlf (drop size rest)))

-- what the first `most` chunks decode to
abbrev pub decoded_from : ℕ → Text → Decoded
decoded_from zero bytes = broken
decoded_from (suc most) bytes = behind_size (decoded_from most) (cut_size bytes)

-- what the bytes decode to
abbrev pub decoded : Text → Decoded
decoded bytes = decoded_from (length bytes) bytes
