-- Which entry of a history is the first that the book would not give, and which is the first that names no document
-- (this project's own).
use Rattle.std.specs.Prelude.{◌≡◌, ℕ, ◌+◌, Bool, nat_le, List, [], ◌∷◌, take, position, Option, Some, None}
use Rattle.std.specs.List.{slice_get}
use Rattle.book_calls.specs.declared.book.Book.{Book}
use Rattle.book_calls.specs.declared.entry.Entry.{Entry}
use Rattle.book_calls.specs.Book.{after, reply}
use Rattle.book_calls.specs.Entries.{book_after}

-- ---- legal entries

-- The entry is the one of this turn, and its reply is that of the book.
pub record IsRight (book : Book) (turn : ℕ) (entry : Entry) : Type 0 where
  pub turn_is : entry.turn ≡ turn
  pub reply_is : entry.reply ≡ reply book entry.op

-- each entry is right, of this turn and those after it, with the book after the entries before it
abbrev pub AreRight : Book → ℕ → List Entry → Type 0
AreRight book turn [] = Unit {0}
AreRight book turn (entry ∷ history) = IsRight book turn entry × AreRight (after book entry.op) (turn + 1) history

-- The entries before this one are right, and it is not.
pub record IsIllegalAt (opening : Book) (history : List Entry) (index : ℕ) : Type 0 where
  pub before : AreRight opening 0 (take index history)
  pub entry : Entry
  pub entry_is : slice_get history index ≡ Some entry
  pub wrong : ¬ (IsRight (book_after opening (take index history)) index entry)

-- what a history from an opening book comes to: no entry is illegal, or this is the first
abbrev pub IsJudged : Book → List Entry → Option ℕ → Type 0
IsJudged opening history None = AreRight opening 0 history
IsJudged opening history (Some index) = IsIllegalAt opening history index

-- ---- documents

-- the entry's document is none of so many, which are counted from 0
abbrev pub is_stranger : ℕ → Entry → Bool
is_stranger count entry = nat_le count entry.document

-- the first entry of such a document
abbrev pub first_stranger : ℕ → List Entry → Option ℕ
first_stranger count history = position (is_stranger count) history
