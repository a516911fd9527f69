use Rattle.std.proofs.Common.{◌≡◌, filter, map, take}
use Rattle.book_preflights.specs.Entries.{is_alive}
use Rattle.book_preflights.specs.Private.Marks.{marked}
use Rattle.book_preflights.proofs.lessons.alive_of.Given as goal

abbrev pub invariant-loop-entry : goal.invariant-loop-entry
invariant-loop-entry l = l.alive.items ≡ map (marked l.lesson) (filter (is_alive l.now) (take l.entry-index l.entries))
