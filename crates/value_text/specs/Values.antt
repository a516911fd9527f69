-- Header values (Fetch, section 2.2.2).
use Rattle.std.specs.Prelude.{ℕ, Bool, ◌==◌, ◌||◌, ◌&&◌, not}
use Rattle.std.specs.List.{list_all}
use Rattle.std.specs.Str.{bytes_eq}
use Rattle.value_text.specs.Texts.{Text}
use Rattle.value_text.specs.Trims.{tab_or_space, trimmed}
use Rattle.value_text.specs.Ascii.{carriage_return, line_feed, nul}

-- NUL or an HTTP newline byte
abbrev pub is_nul_or_newline : ℕ → Bool
is_nul_or_newline byte = byte == nul || byte == line_feed || byte == carriage_return

-- a header value: no tab or space at its ends, and neither NUL nor newline in it
abbrev pub is_header_value : Text → Bool
is_header_value text = bytes_eq (trimmed tab_or_space text) text && list_all (λ byte. not (is_nul_or_newline byte)) text
