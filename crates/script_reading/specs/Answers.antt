-- The bytes of an answer (RFC 9112, sections 2 and 4).
use Rattle.std.specs.Prelude.{ℕ, List, ◌++◌, codes, decimal}
use Rattle.std.specs.List.{flat_map}
use Rattle.value_text.specs.Texts.{Text}
use Rattle.value_requests.specs.declared.init.Pair.{Pair}
use Rattle.value_requests.specs.Lines.{field_line}

-- a header on its line
abbrev pub header_line : Pair → Text
header_line header = field_line header.name header.value

-- the status line
abbrev pub status_line : ℕ → Text
status_line status = codes "HTTP/1.1 " ++ (decimal status ++ codes " Scripted\r\n")

-- the status line, each header on its line, an empty line and the body
abbrev pub answer_bytes : ℕ → List Pair → Text → Text
answer_bytes status headers body = status_line status ++ (flat_map header_line headers ++ (codes "\r\n" ++ body))
