use Rattle.std.proofs.Common.{◌≡◌, map}
use Rattle.book_preflights.specs.Private.Marks.{unmarked}
use Rattle.book_preflights.proofs.lessons.all_unmarked.Given as goal

abbrev pub invariant-loop-mark : goal.invariant-loop-mark
invariant-loop-mark l = l.entries.items ≡ map (unmarked l.lesson) l.yielded
