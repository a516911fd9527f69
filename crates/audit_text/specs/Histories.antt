-- The history in the printed text of a play: its lines, and the entries that they tell (what `fetchplay play` writes).
use Rattle.std.specs.Prelude.{◌≡◌, ◌≢◌, ℕ, zero, suc, List, [], ◌∷◌, ◌++◌, take, codes, Some}
use Rattle.std.specs.List.{All, flat_map, slice_get}
use Rattle.value_text.specs.Texts.{Text}
use Rattle.book_calls.specs.declared.entry.Entry.{Entry}
use Rattle.script_lines.specs.Lines.{line}
use Rattle.play_text.specs.Plain.{IsLine}
use Rattle.audit_text.specs.declared.history.Reading.{Reading}
use Rattle.audit_text.specs.declared.history.Reading.TheVariants.{Entries, Fault}
use Rattle.audit_text.specs.Entries.{IsLineOf}

-- ---- lines

-- lines, each with its LF
abbrev pub lined : List Text → Text
lined lines = flat_map line lines

-- the line before the first entry
abbrev pub heading : Text
heading = codes "history"

-- The text is lines of which the first `history` stands after these, and the last is `done`; between them are these.
pub record HasLines (play : Text) (before lines : List Text) : Type 0 where
  pub before_are : All IsLine before
  pub first : All (λ text. text ≢ heading) before
  pub lines_are : All IsLine lines
  pub text_is : play ≡ lined before ++ (line heading ++ (lined lines ++ line (codes "done")))

-- ---- entries

-- the lines are those of the entries, one by one
abbrev pub AreLinesOf : List Text → List Entry → Type 0
AreLinesOf [] [] = Unit {0}
AreLinesOf [] (entry ∷ history) = ⊥
AreLinesOf (text ∷ lines) [] = ⊥
AreLinesOf (text ∷ lines) (entry ∷ history) = IsLineOf text entry × AreLinesOf lines history

-- The lines of the text between `history` and `done` are those of these entries.
pub record Holds (play : Text) (history : List Entry) : Type 0 where
  pub before : List Text
  pub lines : List Text
  pub has : HasLines play before lines
  pub entries : AreLinesOf lines history

-- So many lines after `history` are those of entries, and the next is of none.
pub record FailsAfter (play : Text) (count : ℕ) : Type 0 where
  pub before : List Text
  pub lines : List Text
  pub has : HasLines play before lines
  pub good : List Entry
  pub entries : AreLinesOf (take count lines) good
  pub text : Text
  pub next : slice_get lines count ≡ Some text
  pub bad : (entry : Entry) → ¬ (IsLineOf text entry)

-- no history at 0, where the text has not such lines; else the first line that is none of an entry, counted from 1
abbrev pub HasFault : Text → ℕ → Type 0
HasFault play zero = (before lines : List Text) → ¬ (HasLines play before lines)
HasFault play (suc count) = FailsAfter play count

-- what the text is read as
abbrev pub IsRead : Text → Reading → Type 0
IsRead play (Entries history) = Holds play history
IsRead play (Fault number) = HasFault play number
