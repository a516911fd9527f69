use Rattle.std.proofs.Common.{◌≡◌, ℕ, ◌≤◌, map, vec_capacity, vec_len}
use Rattle.std.specs.List.{All, range_with_len}
use Rattle.book_turns.specs.Counts.{times}
use Rattle.book_turns.specs.Passes.{made_of, opening_of}
use Rattle.play_seats.specs.Passes.{IsFirst, IsNew}
use Rattle.play_seats.proofs.passes.passes_of.Given as goal

-- the documents so far have their passes
abbrev pub invariant-loop-number : goal.invariant-loop-number
invariant-loop-number l = record {
  first : IsFirst l.book.table.shared.table_id (opening_of l.initial.first) l.first;
  new : All (IsNew l.book.table.shared.table_id (opening_of l.initial.first)) l.passes.items;
  documents : map (λ pass. pass.document) l.passes.items ≡ range_with_len 0 l.number;
  made : (d : ℕ) → times d (made_of l.first) ≡ times d (range_with_len 0 l.number);
  count : vec_len l.passes ≡ l.number;
  room : l.count ≤ vec_capacity l.passes;
}
