use Rattle.std.proofs.Common.{◌≡◌, ◌+◌, ◌≤◌}
use Rattle.book_turns.specs.Passes.{left_of}
use Rattle.rows_books.proofs.threads.make_calls.Given as goal

abbrev pub invariant-loop-number : goal.invariant-loop-number
invariant-loop-number g l =
    (l.pass.seat.table_id ≡ l.initial.pass.seat.table_id) × (l.pass.document ≡ l.initial.pass.document)
    × (500 ≤ left_of l.pass + l.number)
