-- A law of bodies: bytes that leave a body open are so many at most, so that a loop that feeds a reader
-- comes to its end whatever a server sends (RFC 9112, sections 6.3, 7.1 and 8).
use Rattle.std.specs.Prelude.{ℕ, ◌+◌, ◌-◌, ◌*◌, ◌≤◌, min, length}
use Rattle.value_text.specs.Texts.{Text}
use Rattle.link_http1.specs.Bodies.{IsOpen}
use Rattle.link_http1.specs.Chunks.{most_line, most_trailers}
use Rattle.link_http1.specs.declared.framing.Framing.{Framing}
use Rattle.link_http1.specs.declared.framing.Framing.TheVariants as framing

-- how many bytes leave a body of this framing and limit open at most; in chunks each byte of data may come in a
-- chunk of its own, with a line and a CRLF, and then the last line and all but one byte of the trailers
abbrev pub most_open : Framing → ℕ → ℕ
most_open framing.Nothing limit = 0
most_open framing.Broken limit = 0
most_open framing.ToEnd limit = limit
most_open (framing.Length total) limit = min total limit
most_open framing.Chunked limit = (most_line + 1 + 2) * limit + (most_line + (most_trailers - 1))

-- bytes that leave a body open are so many at most
abbrev pub OpenBodiesAreShort : Type 0
OpenBodiesAreShort =
    (how : Framing) (limit : ℕ) (bytes : Text) → IsOpen how limit bytes → length bytes ≤ most_open how limit
