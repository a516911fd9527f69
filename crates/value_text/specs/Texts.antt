-- A text: its bytes, each a number below 256 (this project's own word).
use Rattle.std.specs.Prelude.{ℕ, List}

abbrev pub Text : Type 0
Text = List ℕ
