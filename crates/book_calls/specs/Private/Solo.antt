-- What the one pass of a book keeps by itself.
use Rattle.std.specs.Prelude.{◌≡◌, ℕ, ◌≤◌, List, ◌++◌, drop, length}
use Rattle.book_calls.specs.declared.book.Book.{Book}
use Rattle.book_calls.specs.declared.entry.Entry.{Entry}
use Rattle.book_calls.specs.Entries.{HasTurnsFrom, Legal, book_after}
use Rattle.book_calls.specs.Solo.{AreOf, Solo}

-- the pass of this document, whose entries are those of the history behind these
abbrev pub solo_of : ℕ → Book → List Entry → List Entry → ℕ → Solo
solo_of document opening behind history calls = record {
  document = document;
  opening = opening;
  behind = behind;
  entries = drop (length behind) history;
  calls = calls;
}

-- The history has grown by the pass's entries; its book is the one after them; they are legal, and of its document; the
-- turn of entry i of the history is i; and the calls are at most 2^32 - 1.
pub record IsSolo (book : Book) (history : List Entry) (pass : Solo) : Type 0 where
  pub grown : history ≡ pass.behind ++ pass.entries
  pub book_is : book ≡ book_after pass.opening pass.entries
  pub legal : Legal pass.opening pass.entries
  pub of_document : AreOf pass.document pass.entries
  pub turns : HasTurnsFrom 0 history
  pub few : pass.calls ≤ 4294967295
