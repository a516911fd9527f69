-- Passes of the shared book for the documents of a play.
use Rattle.std.specs.Prelude.{◌≡◌, ℕ, List, [], map}
use Rattle.std.specs.List.{All, range_with_len}
use Rattle.book_calls.specs.declared.book.Book.{Book}
use Rattle.book_turns.specs.Counts.{times}
use Rattle.book_turns.specs.Passes.{left_of, made_of, opening_of, own_of}
use Rattle.book_turns.specs.declared.pass.TurnPass.{TurnPass}
use Rattle.atomic_table.specs.Seated.{TableId}

-- the first pass of a book that was opened with this one: no call was made on it
pub record IsFirst (id : TableId) (opening : Book) (first : TurnPass) : Type 0 where
  pub belongs : first.seat.table_id ≡ id
  pub document_is : first.document ≡ 4294967295
  pub opening_is : opening_of first ≡ opening
  pub own_is : own_of first ≡ []
  pub left_is : left_of first ≡ 4294967295

-- a pass on which no call was made
pub record IsNew (id : TableId) (opening : Book) (pass : TurnPass) : Type 0 where
  pub belongs : pass.seat.table_id ≡ id
  pub opening_is : opening_of pass ≡ opening
  pub own_is : own_of pass ≡ []
  pub left_is : left_of pass ≡ 4294967295

-- passes for so many documents, in order, and the first pass, which has made them
pub record ArePasses (id : TableId) (opening : Book) (count : ℕ) (first : TurnPass) (passes : List TurnPass)
    : Type 0 where
  pub first_is : IsFirst id opening first
  pub new : All (IsNew id opening) passes
  pub documents : map (λ pass. pass.document) passes ≡ range_with_len 0 count
  pub made : (d : ℕ) → times d (made_of first) ≡ times d (range_with_len 0 count)
