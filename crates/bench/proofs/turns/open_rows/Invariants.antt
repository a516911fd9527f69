use Rattle.std.proofs.Common.{◌≡◌, ℕ, ◌≤◌}
use Rattle.std.specs.List.{All}
use Rattle.book_turns.specs.Counts.{times}
use Rattle.book_turns.specs.Passes.{left_of, made_of}
use Rattle.bench.proofs.turns.open_rows.Given as goal

abbrev pub invariant-loop-document : goal.invariant-loop-document
invariant-loop-document l = record {
  belongs : l.first.seat.table_id ≡ l.book.table.shared.table_id;
  first : l.first.document ≡ 4294967295;
  fresh : (d : ℕ) → l.document ≤ d → times d (made_of l.first) ≡ 0;
  rows : All (λ row. (row.pass.seat.table_id ≡ l.book.table.shared.table_id)
      × (left_of row.pass ≡ 4294967295)) l.rows.items;
}
