-- Passes of a book, and what is known once all have come back.
use Rattle.std.specs.Prelude.{◌≡◌, ℕ, ◌-◌, ◌<◌, ◌≤◌, Bool, List, ◌==◌}
use Rattle.std.specs.List.{All, count_by, sum_by}
use Rattle.atomic_table.specs.Seated.{TableId}
use Rattle.book_calls.specs.Accounts.{Account}
use Rattle.book_calls.specs.declared.book.Book.{Book}
use Rattle.book_calls.specs.declared.entry.Entry.{Entry}
use Rattle.book_calls.specs.Entries.{book_after, Legal, entries_of, StartsWith}
use Rattle.book_turns.specs.Counts.{times}
use Rattle.book_turns.specs.declared.pass.TurnPass.{TurnPass}

-- of a pass: the book that its shared book was opened with, the entries of its own calls, and the history
-- that it has seen: up to its last turn
abbrev pub opening_of : TurnPass → Book
opening_of pass = pass.seat.me.0.opening

abbrev pub own_of : TurnPass → List Entry
own_of pass = pass.seat.me.0.own

abbrev pub seen_of : TurnPass → List Entry
seen_of pass = pass.seat.me.0.seen

-- the documents that the pass has made passes for
abbrev pub made_of : TurnPass → List ℕ
made_of pass = pass.seat.me.0.made

-- how many calls were made on the pass, and how many may still be made
abbrev pub calls_of : TurnPass → ℕ
calls_of pass = pass.seat.me.0.draws

abbrev pub left_of : TurnPass → ℕ
left_of pass = 4294967295 - calls_of pass

-- what a pass keeps account of
abbrev pub account_of : TurnPass → Account
account_of pass = record {
  document = pass.document;
  opening = opening_of pass;
  own = own_of pass;
  seen = seen_of pass;
  left = left_of pass;
}

-- the pass is of this document
abbrev pub is_of : ℕ → TurnPass → Bool
is_of document pass = pass.document == document

-- the first pass of the book, and a pass for each document that it has made
pub record HasEveryPass (id : TableId) (passes : List TurnPass) : Type 0 where
  pub belong : All (λ p. p.seat.table_id ≡ id) passes
  pub first : 0 < count_by (is_of 4294967295) passes
  pub whole : All (λ p. p.document ≡ 4294967295 → (d : ℕ) → 0 < times d (made_of p)
      → 0 < count_by (is_of d) passes) passes

-- one legal history from the opening book to this book: it has just the entries of the passes' own, no two
-- passes are of one document, and each has seen a beginning of it
pub record IsOneHistory (passes : List TurnPass) (book : Book) (history : List Entry) : Type 0 where
  pub legal : All (λ p. p.document ≡ 4294967295
      → Legal (opening_of p) history × (book ≡ book_after (opening_of p) history)) passes
  pub own : All (λ p. entries_of p.document history ≡ own_of p) passes
  pub seen : All (λ p. StartsWith history (seen_of p)) passes
  pub named : All (λ e. 0 < count_by (is_of e.document) passes) history
  pub apart : (d : ℕ) → count_by (is_of d) passes ≤ 1
  pub turns : All (λ e. e.turn < sum_by calls_of passes) history
