-- What a pass of a shared book keeps account of (this project's own).
use Rattle.std.specs.Prelude.{ℕ, List}
use Rattle.book_calls.specs.declared.book.Book.{Book}
use Rattle.book_calls.specs.declared.entry.Entry.{Entry}

-- The document that the pass is for; the book that the share was opened with; the entries of the calls that were made
-- through the pass; the share's history up to the last of them; and how many calls may still be made.
pub record Account : Type 0 where
  pub document : ℕ
  pub opening : Book
  pub own : List Entry
  pub seen : List Entry
  pub left : ℕ
