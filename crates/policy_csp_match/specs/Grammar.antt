-- The parts of a scheme-source and a host-source (CSP 3, section 2.3.1, "scheme-part", "host-part", "port-part",
-- "path-part").
use Rattle.std.specs.Prelude.{ℕ, Bool, true, false, ◌==◌, ◌||◌, ◌&&◌, [], ◌∷◌, nat_eq, bytes_eq, codes, drop}
use Rattle.std.specs.Prelude.{not, if◌then◌else◌}
use Rattle.std.specs.Char.{is_ascii_alphabetic, is_ascii_alphanumeric, is_ascii_hexdigit}
use Rattle.std.specs.List.{list_all, list_any, starts_with}
use Rattle.url.specs.Scheme.{is_scheme_byte}
use Rattle.value_origins.specs.Names.{labels, without_last_dot}
use Rattle.value_text.specs.Texts.{Text}
use Rattle.value_text.specs.Ascii.{hyphen, percent_sign}
use Rattle.value_text.specs.Digits.{is_digits}
use Rattle.value_text.specs.Words.{is_filled}

-- scheme-part: a letter, and then letters, digits, `+`, `-` and `.`
abbrev pub is_scheme_part : Text → Bool
is_scheme_part [] = false
is_scheme_part (first ∷ rest) = is_ascii_alphabetic first && list_all is_scheme_byte rest

-- host-char: a letter, a digit or `-`
abbrev pub is_host_byte : ℕ → Bool
is_host_byte byte = is_ascii_alphanumeric byte || byte == hyphen

-- one host-char or more
abbrev pub is_label : Text → Bool
is_label text = is_filled text && list_all is_host_byte text

-- the text begins with `*.`
abbrev pub has_wildcard : Text → Bool
has_wildcard host = starts_with nat_eq host (codes "*.")

-- the host without `*.` in front
abbrev pub without_wildcard : Text → Text
without_wildcard host = if has_wildcard host then drop 2 host else host

-- host-part: `*`, or an optional `*.`, labels with a dot between each two, and an optional last dot
abbrev pub is_host_part : Text → Bool
is_host_part host =
    bytes_eq host (codes "*") || list_all is_label (labels (without_last_dot (without_wildcard host)))

-- port-part: digits or `*`
abbrev pub is_port_part : Text → Bool
is_port_part port = bytes_eq port (codes "*") || is_digits port

-- a byte of a path that is no escape: a letter, a digit, `/`, or one of these marks. `;` and `,` are none.
abbrev pub is_path_byte : ℕ → Bool
is_path_byte byte = is_ascii_alphanumeric byte || list_any (λ mark. mark == byte) (codes "/-._~!$&'()*+=:@")

-- the text begins with two hexadecimal digits
abbrev pub begins_with_hex : Text → Bool
begins_with_hex [] = false
begins_with_hex (high ∷ []) = false
begins_with_hex (high ∷ low ∷ rest) = is_ascii_hexdigit high && is_ascii_hexdigit low

-- each byte is one of a path, or `%` with two hexadecimal digits after it
abbrev pub are_path_bytes : Text → Bool
are_path_bytes [] = true
are_path_bytes (byte ∷ rest) =
    (is_path_byte byte || (byte == percent_sign && begins_with_hex rest)) && are_path_bytes rest

-- path-part: it begins with `/`, not with `//`, and is made of path bytes and escapes
abbrev pub is_path_part : Text → Bool
is_path_part path =
    starts_with nat_eq path (codes "/") && not (starts_with nat_eq path (codes "//")) && are_path_bytes path
