use Rattle.std.proofs.Common.{◌≡◌, length}
use Rattle.std.specs.BTreeMap.{IsOrdered}
use Rattle.book_preflights.specs.Private.Partitions.{key_cmp, listed}
use Rattle.book_preflights.proofs.walk.none_after.Given as goal

-- the entries are as they were, and the keys in order
abbrev pub invariant-loop-last : goal.invariant-loop-last
invariant-loop-last l =
    (listed (λ key. key.items) l.partitions.entries ≡ listed (λ key. key.items) l.fn.partitions.entries)
    × IsOrdered (key_cmp (λ key. key.items)) l.partitions

abbrev pub decreases-loop-last : goal.decreases-loop-last
decreases-loop-last l = length l.partitions.entries
