use Rattle.std.proofs.Common.{◌≡◌, take}
use Rattle.std.specs.List.{count_by}
use Rattle.book_turns.specs.Passes.{is_of}
use Rattle.book_turns.proofs.close.first_at.Given as goal

abbrev pub invariant-loop-i : goal.invariant-loop-i
invariant-loop-i l = count_by (is_of 4294967295) (take l.i l.passes) ≡ 0
