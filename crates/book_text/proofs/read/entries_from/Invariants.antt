use Rattle.std.proofs.Common.{◌≡◌, ◌+◌, ◌-◌}
use Rattle.book_preflights.specs.Keys as keys
use Rattle.book_text.specs.Reading.{entries_from, entry_at, lines_from, why_no_entry}
use Rattle.book_text.proofs.read.entries_from.Given as goal

-- what is left, read behind the entries so far, is what all are read as
abbrev pub invariant-loop-index : goal.invariant-loop-index
invariant-loop-index l =
    lines_from entry_at keys.may_stand_last why_no_entry (l.line + l.index) (l.count - l.index) l.cache l.rest
    ≡ entries_from l.line l.count l.text
