-- The lines of a printed history: which texts are the line of an entry, and of which (the output of `fetchplay play`).
use Rattle.std.specs.Prelude.{◌≡◌, ◌<◌, ◌^◌, IsTrue, Option, Some, None}
use Rattle.value_text.specs.Texts.{Text}
use Rattle.book_calls.specs.declared.entry.Entry.{Entry}
use Rattle.book_calls.specs.Ops.{InRange}
use Rattle.script_lines.specs.Lines.{line}
use Rattle.play_text.specs.Text.{entry_line}
use Rattle.play_text.specs.Words.{has_words}

-- ---- entries that a line may tell

-- An entry that the line of a history may tell: its numbers are those of their types, its op is in range, and its texts
-- are as those of ops are.
pub record IsEntry (entry : Entry) : Type 0 where
  pub turn : entry.turn < 2 ^ 64
  pub document : entry.document < 2 ^ 32
  pub op : InRange entry.op
  pub words : IsTrue (has_words entry.op)

-- ---- lines

-- the text is the line of this entry, its LF aside
pub record IsLineOf (text : Text) (entry : Entry) : Type 0 where
  pub is_entry : IsEntry entry
  pub text_is : line text ≡ entry_line entry

-- what a line is read as: the entry whose line it is, where there is one
abbrev pub IsReading : Text → Option Entry → Type 0
IsReading text None = (entry : Entry) → ¬ (IsLineOf text entry)
IsReading text (Some entry) = IsLineOf text entry
