-- The room that the header lines of a request find.
use Rattle.std.specs.Prelude.{ℕ, ◌≤◌, length}
use Rattle.httparse.specs.Grammar.{RequestHead}
use Rattle.value_text.specs.Texts.{Text}
use Rattle.link_http1.specs.RequestHeads.{BeginsRequest}

-- a head that a prefix of the bytes is has so many header lines at most
abbrev pub FindsRoom : Text → ℕ → Type 0
FindsRoom bytes room = (printed : RequestHead) → BeginsRequest bytes printed → length printed.fields ≤ room
