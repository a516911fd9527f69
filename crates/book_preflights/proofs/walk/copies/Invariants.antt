use Rattle.std.proofs.Common.{◌≡◌, ◌++◌}
use Rattle.book_preflights.specs.Private.Partitions.{listed}
use Rattle.book_preflights.proofs.walk.copies.Given as goal

-- the copies so far and those of what is left are those of all
abbrev pub invariant-loop-key : goal.invariant-loop-key
invariant-loop-key l =
    l.entries.items ++ listed (λ key. key.items) l.key-iterator ≡ listed (λ key. key.items) l.partitions.entries
