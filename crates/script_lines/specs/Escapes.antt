-- Escaped text: printable ASCII as it is, every other byte and the backslash by two hexadecimal digits (the printed
-- text of a play).
use Rattle.std.specs.Prelude.{ℕ, ◌/◌, ◌%◌, Bool, not, ◌&&◌, ◌==◌, nat_le, nat_lt, [], ◌∷◌, ◌++◌, codes}
use Rattle.std.specs.Prelude.{if◌then◌else◌}
use Rattle.std.specs.List.{flat_map}
use Rattle.std.specs.Char.{digit_char}
use Rattle.value_text.specs.Texts.{Text}
use Rattle.value_text.specs.Ascii.{backslash, delete_byte, space}

-- the byte is written as it is: it is printable ASCII, and no backslash
abbrev pub is_plain : ℕ → Bool
is_plain byte = nat_le space byte && nat_lt byte delete_byte && not (byte == backslash)

-- a byte by its two hexadecimal digits, in lower case
abbrev pub hex_escape : ℕ → Text
hex_escape byte = codes "\\x" ++ digit_char (byte / 16) ∷ digit_char (byte % 16) ∷ []

-- a byte of an escaped text
abbrev pub escaped_byte : ℕ → Text
escaped_byte byte = if is_plain byte then byte ∷ [] else hex_escape byte

-- a text with each byte escaped
abbrev pub escaped : Text → Text
escaped text = flat_map escaped_byte text
