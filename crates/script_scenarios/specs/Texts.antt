-- Texts that a scenario may hold.
use Rattle.std.specs.Prelude.{◌&&◌, Bool, nat_le, length}
use Rattle.value_text.specs.Texts.{Text}
use Rattle.value_text.specs.Values.{is_header_value}

-- a header value (Fetch, section 2.2.2) of 1 to 4,096 bytes
abbrev pub is_cookie_value : Text → Bool
is_cookie_value text = nat_le 1 (length text) && nat_le (length text) 4096 && is_header_value text
