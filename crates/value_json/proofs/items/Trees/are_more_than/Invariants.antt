use Rattle.std.proofs.Common.{◌≡◌, ◌+◌, length}
use Rattle.value_json.specs.Trees.{trees_of, count}
use Rattle.value_json.proofs.items.Trees.are_more_than.Given as goal

abbrev pub invariant-loop-left : goal.invariant-loop-left
invariant-loop-left l = count (trees_of l.fn.self) + l.left ≡ l.fn.most + count (trees_of l.trees)

abbrev pub decreases-loop-left : goal.decreases-loop-left
decreases-loop-left l = length l.trees
