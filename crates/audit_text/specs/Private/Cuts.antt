-- How far the lines of a text are read.
use Rattle.std.specs.Prelude.{◌≡◌, ◌≢◌, ℕ, ◌+◌, ◌≤◌, List, ◌++◌, length, codes}
use Rattle.std.specs.List.{All}
use Rattle.value_text.specs.Texts.{Text}
use Rattle.book_calls.specs.declared.entry.Entry.{Entry}
use Rattle.script_lines.specs.Lines.{line}
use Rattle.audit_text.specs.declared.history.Reading.{Reading}
use Rattle.audit_text.specs.declared.history.Reading.TheVariants.{Entries, Fault}
use Rattle.audit_text.specs.Entries.{IsLineOf}
use Rattle.play_text.specs.Plain.{IsLine}
use Rattle.audit_text.specs.Histories.{AreLinesOf, heading, lined}

-- A first line, and what follows it.
pub record IsCut (text first rest : Text) : Type 0 where
  pub first_is : IsLine first
  pub text_is : text ≡ line first ++ rest

-- ---- the heading

-- a line that is not the heading
pub record IsOther (text : Text) : Type 0 where
  pub is_line : IsLine text
  pub other : text ≢ heading

-- Lines of which none is the heading, and what follows them.
pub record Passes (play rest : Text) : Type 0 where
  pub before : List Text
  pub others : All IsOther before
  pub text_is : play ≡ lined before ++ rest

-- no line is the heading
abbrev pub LacksHeading : Text → Type 0
LacksHeading play = (before : List Text) (rest : Text) → All IsLine before
    → play ≡ lined before ++ (line heading ++ rest) → ⊥

-- ---- the end

-- the text is lines
pub record AreLines (text : Text) : Type 0 where
  pub lines : List Text
  pub are : All IsLine lines
  pub text_is : text ≡ lined lines

-- lines, and then `done`
pub record IsDone (text front : Text) : Type 0 where
  pub are_lines : AreLines front
  pub text_is : text ≡ front ++ line (codes "done")

-- ---- entries

-- So many lines were read, which are those of these entries.
pub record HasRead (text rest : Text) (history : List Entry) (count : ℕ) : Type 0 where
  pub read : List Text
  pub are : All IsLine read
  pub entries : AreLinesOf read history
  pub text_is : text ≡ lined read ++ rest
  pub count_is : count ≡ length read
  pub few : count + length rest ≤ length text

-- all lines are those of these entries
pub record HoldsLines (text : Text) (history : List Entry) : Type 0 where
  pub lines : List Text
  pub are : All IsLine lines
  pub entries : AreLinesOf lines history
  pub text_is : text ≡ lined lines

-- so many are, and the next is that of none
pub record FailsLines (text : Text) (count : ℕ) : Type 0 where
  pub read : List Text
  pub are : All IsLine read
  pub good : List Entry
  pub entries : AreLinesOf read good
  pub count_is : count ≡ length read + 1
  pub bad : Text
  pub rest : Text
  pub cut : IsLine bad
  pub text_is : text ≡ lined read ++ (line bad ++ rest)
  pub none : (entry : Entry) → ¬ (IsLineOf bad entry)

abbrev pub IsReadLines : Text → Reading → Type 0
IsReadLines text (Entries history) = HoldsLines text history
IsReadLines text (Fault number) = FailsLines text number
