-- A share that one pass has for itself.
use Rattle.std.specs.Prelude.{◌≡◌, ℕ, ◌-◌, List}
use Rattle.std.specs.List.{AllByRecursion}
use Rattle.book_calls.specs.Accounts.{Account}
use Rattle.book_calls.specs.declared.book.Book.{Book}
use Rattle.book_calls.specs.declared.entry.Entry.{Entry}

-- Its pass: the document, the book that the pass was opened with, the entries that stood in the history then, those
-- that it has added, and how many calls were made on it.
pub record Solo : Type 0 where
  pub document : ℕ
  pub opening : Book
  pub behind : List Entry
  pub entries : List Entry
  pub calls : ℕ

-- what the pass keeps account of: its own entries are all that it has seen
abbrev pub solo_account : Solo → Account
solo_account pass = record {
  document = pass.document;
  opening = pass.opening;
  own = pass.entries;
  seen = pass.entries;
  left = 4294967295 - pass.calls;
}

-- the entries are of this document
abbrev pub AreOf : ℕ → List Entry → Type 0
AreOf document entries = AllByRecursion (λ entry. entry.document ≡ document) entries
