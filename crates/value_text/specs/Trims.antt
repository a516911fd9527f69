-- Trimming of bytes at the ends of a text (Fetch, section 2.2: HTTP tab or space, HTTP whitespace).
use Rattle.std.specs.Prelude.{◌==◌, [], ◌∷◌, reverse, if◌then◌else◌}
use Rattle.std.specs.List.{list_any}
use Rattle.value_text.specs.Texts.{Text}
use Rattle.value_text.specs.Ascii.{carriage_return, line_feed, space, tab}

-- an HTTP tab or space byte is one of these
abbrev pub tab_or_space : Text
tab_or_space = tab ∷ space ∷ []

-- an HTTP whitespace byte is one of these: tab, LF, CR and space
abbrev pub http_whitespace : Text
http_whitespace = tab ∷ line_feed ∷ carriage_return ∷ space ∷ []

-- the text without the first bytes that are among the blanks
abbrev pub trimmed_start : Text → Text → Text
trimmed_start blanks [] = []
trimmed_start blanks (byte ∷ text) =
    if list_any (λ blank. blank == byte) blanks then trimmed_start blanks text else byte ∷ text

-- the text without the last bytes that are among the blanks
abbrev pub trimmed_end : Text → Text → Text
trimmed_end blanks text = reverse (trimmed_start blanks (reverse text))

-- the text without the blanks at both ends
abbrev pub trimmed : Text → Text → Text
trimmed blanks text = trimmed_end blanks (trimmed_start blanks text)
