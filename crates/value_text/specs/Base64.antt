-- A base64 value, as hash expressions and nonces have it (CSP 3, section 2.3.1, "base64-value"; Subresource
-- Integrity, section 3.5).
use Rattle.std.specs.Prelude.{ℕ, Bool, ◌==◌, ◌||◌, ◌&&◌, [], ◌∷◌, bytes_eq, codes}
use Rattle.std.specs.Char.{is_ascii_alphanumeric}
use Rattle.std.specs.List.{after_first, before_first, list_all, list_any}
use Rattle.value_text.specs.Texts.{Text}
use Rattle.value_text.specs.Ascii.{equals_sign}
use Rattle.value_text.specs.Words.{is_filled}

-- a letter, a digit, `+`, `/`, `-` or `_`
abbrev pub is_symbol : ℕ → Bool
is_symbol byte = is_ascii_alphanumeric byte || list_any (λ mark. mark == byte) (codes "+/-_")

-- one symbol or more
abbrev pub are_symbols : Text → Bool
are_symbols text = is_filled text && list_all is_symbol text

-- nothing, or one `=`
abbrev pub is_padding_end : Text → Bool
is_padding_end text = list_any (λ end. bytes_eq end text) ([] ∷ codes "=" ∷ [])

-- base64-value: one symbol or more, then at most two `=`: after the first `=` comes at most one more
abbrev pub is_base64_value : Text → Bool
is_base64_value text =
    are_symbols (before_first (λ byte. byte == equals_sign) text)
    && is_padding_end (after_first (λ byte. byte == equals_sign) text)
