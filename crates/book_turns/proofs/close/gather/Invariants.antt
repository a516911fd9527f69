use Rattle.std.proofs.Common.{◌≡◌}
use Rattle.std.specs.List.{All}
use Rattle.book_turns.specs.Private.Taken.{taken_in}
use Rattle.book_turns.proofs.close.gather.Given as goal

abbrev pub invariant-loop-pass : goal.invariant-loop-pass
invariant-loop-pass l = record {
  same : l.first.table_id ≡ l.initial.first.table_id;
  view : taken_in l.first.me.0 l.passes.items ≡ taken_in l.initial.first.me.0 l.initial.passes.items;
  belong : All (λ p. p.seat.table_id ≡ l.shared.table_id) l.passes.items;
}

abbrev pub decreases-loop-pass : goal.decreases-loop-pass
decreases-loop-pass l = goal.left-loop-pass l
