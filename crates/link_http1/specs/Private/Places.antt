-- What the places of a reader of a chunked body mean: what the bytes that follow come to there (RFC
-- 9112, section 7.1). The coding itself is defined in `Chunks`.
use Rattle.std.specs.Prelude.{ℕ, ◌+◌, ◌-◌, ◌*◌, ◌^◌, ◌≤◌, ◌<◌, true, ◌||◌, ◌==◌, nat_le, [], ◌∷◌, if◌then◌else◌}
use Rattle.std.specs.Char.{digit_value, is_ascii_hexdigit}
use Rattle.value_text.specs.Texts.{Text}
use Rattle.value_text.specs.Ascii.{carriage_return, line_feed, semicolon, space, tab}
use Rattle.link_http1.specs.Chunks.{Decoded, broken, onto}
use Rattle.link_http1.specs.declared.place.Place.{Place}
use Rattle.link_http1.specs.declared.place.Place.TheVariants.{Size, Blanks, Extension, LineEnd, Data, DataEnd}
use Rattle.link_http1.specs.declared.place.Place.TheVariants.{Trailers, Trailer, TrailerEnd, LastEnd}
use Rattle.link_http1.specs.declared.place.Turn.{Turn}
use Rattle.link_http1.specs.declared.place.Turn.TheVariants.{To, Ended, Broken}

-- LF alone fits
abbrev pub on_line_feed : ℕ → Turn → Turn
on_line_feed byte turn = if byte == line_feed then turn else Broken

-- CR alone fits
abbrev pub on_carriage_return : ℕ → Turn → Turn
on_carriage_return byte turn = if byte == carriage_return then turn else Broken

-- a blank, a semicolon, or the end of the line; 4,094 bytes leave room for its CRLF alone
abbrev pub behind_digits : ℕ → ℕ → ℕ → Turn
behind_digits size line byte =
    if byte == carriage_return then To (LineEnd size)
    else if nat_le 4094 line then Broken
    else if byte == tab || byte == space then To (Blanks size (line + 1))
    else if byte == semicolon then To (Extension size (line + 1))
    else Broken

-- a digit of the size, or what follows the digits
abbrev pub in_size : ℕ → ℕ → ℕ → Turn
in_size digits value byte =
    if is_ascii_hexdigit byte
    then (if digits == 16 then Broken else To (Size (digits + 1) (value * 16 + digit_value byte)))
    else if digits == 0 then Broken
    else behind_digits value digits byte

-- a byte of an extension, or the end of the line; 4,094 bytes leave room for its CRLF alone
abbrev pub in_extension : ℕ → ℕ → ℕ → Turn
in_extension size line byte =
    if byte == carriage_return then To (LineEnd size)
    else if byte == line_feed then Broken
    else if nat_le 4094 line then Broken
    else To (Extension size (line + 1))

-- what follows the line of a chunk: its data, or after the last chunk the trailers
abbrev pub behind_line : ℕ → Place
behind_line size = if size == 0 then Trailers 0 else Data size

-- a byte of a line of the trailers, or the CR that leads to this place; 8,188 bytes leave room for the CRLF of
-- the line and that of the empty line alone
abbrev pub at_trailer : ℕ → ℕ → Place → Turn
at_trailer byte bytes end =
    if byte == carriage_return then To end
    else if byte == line_feed then Broken
    else if nat_le 8188 bytes then Broken
    else To (Trailer (bytes + 1))

-- what the next byte comes to, where no data are left
abbrev pub turn : Place → ℕ → Turn
turn (Size digits value) byte = in_size digits value byte
turn (Blanks size line) byte = behind_digits size line byte
turn (Extension size line) byte = in_extension size line byte
turn (LineEnd size) byte = on_line_feed byte (To (behind_line size))
turn (Data left) byte = on_carriage_return byte (To DataEnd)
turn DataEnd byte = on_line_feed byte (To (Size 0 0))
turn (Trailers bytes) byte = at_trailer byte bytes LastEnd
turn (Trailer bytes) byte = at_trailer byte bytes (TrailerEnd bytes)
turn (TrailerEnd bytes) byte = on_line_feed byte (To (Trailers (bytes + 2)))
turn LastEnd byte = on_line_feed byte Ended

-- how many bytes of data are left of the chunk
abbrev pub data_left : Place → ℕ
data_left (Data left) = left
data_left _ = 0

-- what is decoded after a turn
abbrev pub behind_turn : (Place → Decoded) → Turn → Decoded
behind_turn next (To place) = next place
behind_turn next Ended = record { data_is = []; complete = true }
behind_turn next Broken = broken

-- a byte at a place is data, or a turn
abbrev pub behind_byte : (Place → Decoded) → Place → ℕ → Decoded
behind_byte next place byte =
    if data_left place == 0 then behind_turn next (turn place byte)
    else onto (byte ∷ []) (next (Data (data_left place - 1)))

-- what the bytes at a place decode to
abbrev pub decoded_at : Place → Text → Decoded
decoded_at place [] = broken
decoded_at place (byte ∷ bytes) = behind_byte (λ next. decoded_at next bytes) place byte

-- A body may still become whole, or have one byte of data more: the counts are within their limits.
abbrev pub IsLive : Place → Type 0
IsLive (Size digits value) = (digits ≤ 16) × (value < 16 ^ digits)
IsLive (Blanks size line) = line ≤ 4094
IsLive (Extension size line) = line ≤ 4094
IsLive (Trailers bytes) = bytes ≤ 8190
IsLive (Trailer bytes) = bytes ≤ 8188
IsLive (TrailerEnd bytes) = bytes ≤ 8188
IsLive _ = Unit {0}
