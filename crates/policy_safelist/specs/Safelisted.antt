-- CORS-safelisted request-headers (Fetch, section 2.2.2).
use Rattle.std.specs.Prelude.{ℕ, Bool, false, ◌==◌, ◌||◌, ◌&&◌, not, nat_le, nat_lt, List, [], ◌∷◌, length, codes}
use Rattle.std.specs.Prelude.{if◌then◌else◌}
use Rattle.std.specs.List.{list_all, list_any}
use Rattle.std.specs.Char.{is_ascii_alphanumeric}
use Rattle.value_text.specs.Texts.{Text}
use Rattle.value_text.specs.Ascii.{delete_byte, space, tab}
use Rattle.value_text.specs.Mime.{has_essence}
use Rattle.policy_safelist.specs.Names.{is_among}
use Rattle.policy_safelist.specs.Ranges.{is_simple_range}

-- a CORS-unsafe request-header byte: one below space that is no tab, one of these marks, or DEL
abbrev pub is_unsafe_byte : ℕ → Bool
is_unsafe_byte byte =
    (nat_lt byte space && not (byte == tab)) || list_any (λ mark. mark == byte) (codes "\"():<>?@[\\]{}")
    || byte == delete_byte

-- no byte of the value is a CORS-unsafe request-header byte
abbrev pub has_no_unsafe_byte : Text → Bool
has_no_unsafe_byte value = list_all (λ byte. not (is_unsafe_byte byte)) value

-- a byte of a language list: a digit, a letter or one of these
abbrev pub is_language_byte : ℕ → Bool
is_language_byte byte = is_ascii_alphanumeric byte || list_any (λ mark. mark == byte) (codes " *,-.;=")

-- the essences of the types that a form sends
abbrev pub form_types : List Text
form_types =
    codes "application/x-www-form-urlencoded" ∷ codes "multipart/form-data" ∷ codes "text/plain" ∷ []

-- the value has one of these essences
abbrev pub is_form_type : Text → Bool
is_form_type value = list_any (λ essence. has_essence value essence) form_types

-- the value is one that is safelisted for the name
abbrev pub has_safelisted_form : Text → Text → Bool
has_safelisted_form name value =
    if is_among (codes "Accept" ∷ []) name then has_no_unsafe_byte value
    else if is_among (codes "Accept-Language" ∷ codes "Content-Language" ∷ []) name then list_all is_language_byte value
    else if is_among (codes "Content-Type" ∷ []) name then has_no_unsafe_byte value && is_form_type value
    else if is_among (codes "Range" ∷ []) name then is_simple_range value
    else false

-- "CORS-safelisted request-header": the value has at most 128 bytes, and it is safelisted for the name
abbrev pub is_safelisted : Text → Text → Bool
is_safelisted name value = nat_le (length value) 128 && has_safelisted_form name value
