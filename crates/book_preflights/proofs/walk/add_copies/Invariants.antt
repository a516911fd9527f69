use Rattle.std.proofs.Common.{◌≡◌, ◌++◌, map, take}
use Rattle.book_preflights.specs.Keys.{keyed}
use Rattle.book_preflights.proofs.walk.add_copies.Given as goal

-- the copies so far are those of the entries so far
abbrev pub invariant-loop-entry : goal.invariant-loop-entry
invariant-loop-entry l =
    l.entries.items ≡ l.fn.entries.items ++ map (keyed l.key) (take l.entry-index l.partition)
