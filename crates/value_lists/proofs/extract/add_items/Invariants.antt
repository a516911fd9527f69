use Rattle.std.proofs.Common.{◌≡◌, ◌++◌, length}
use Rattle.value_lists.specs.Extract.{items}
use Rattle.value_lists.proofs.extract.add_items.Given as goal

abbrev pub invariant-loop-comma : goal.invariant-loop-comma
invariant-loop-comma l = l.list ++ items l.rest ≡ l.fn.list ++ items l.value

abbrev pub decreases-loop-comma : goal.decreases-loop-comma
decreases-loop-comma l = length l.rest
