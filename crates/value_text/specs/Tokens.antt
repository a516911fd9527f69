-- Tokens: what a method and a field name are made of (RFC 9110, section 5.6.2).
use Rattle.std.specs.Prelude.{ℕ, Bool, ◌==◌, ◌||◌, ◌&&◌, not, length, codes}
use Rattle.std.specs.List.{list_all, list_any}
use Rattle.std.specs.Char.{is_ascii_alphanumeric}
use Rattle.value_text.specs.Texts.{Text}

-- tchar: a letter, a digit or one of these marks
abbrev pub is_tchar : ℕ → Bool
is_tchar byte = is_ascii_alphanumeric byte || list_any (λ mark. mark == byte) (codes "!#$%&'*+-.^_`|~")

-- token: one tchar or more
abbrev pub is_token : Text → Bool
is_token text = not (length text == 0) && list_all is_tchar text
