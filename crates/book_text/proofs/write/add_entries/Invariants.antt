use Rattle.std.proofs.Common.{◌≡◌, ◌++◌, take}
use Rattle.std.specs.List.{AllByRecursion, flat_map}
use Rattle.book_text.specs.Texts.{FitsEntry, entry_line}
use Rattle.book_text.proofs.write.add_entries.Given as goal

-- the lines of the entries so far are written, and their numbers are of 64 bits
abbrev pub invariant-loop-keyed : goal.invariant-loop-keyed
invariant-loop-keyed l =
    (l.text ≡ l.fn.text ++ flat_map entry_line (take l.keyed-index l.entries))
    × AllByRecursion FitsEntry (take l.keyed-index l.entries)
