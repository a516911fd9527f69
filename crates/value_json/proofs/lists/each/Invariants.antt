use Rattle.std.proofs.Common.{◌≡◌, length}
use Rattle.value_json.specs.Trees.{trees_of}
use Rattle.value_json.specs.Reading.{each_from}
use Rattle.value_json.proofs.ReadingLemmas.{with_front}
use Rattle.value_json.proofs.lists.each.Given as goal

abbrev pub invariant-loop-item : goal.invariant-loop-item
invariant-loop-item g l =
    each_from (g.F.Form.reads l.form) 0 (trees_of l.fn.items)
    ≡ with_front l.read (each_from (g.F.Form.reads l.form) (length l.read) (trees_of l.items))

abbrev pub decreases-loop-item : goal.decreases-loop-item
decreases-loop-item g l = length l.items
