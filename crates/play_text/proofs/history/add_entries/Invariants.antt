use Rattle.std.proofs.Common.{◌≡◌, ◌++◌, drop}
use Rattle.std.specs.List.{flat_map}
use Rattle.play_text.specs.Text as spec
use Rattle.play_text.proofs.history.add_entries.Given as goal

abbrev pub invariant-loop-entry : goal.invariant-loop-entry
invariant-loop-entry l =
    l.text ++ flat_map spec.entry_line (drop l.entry-index l.entries)
    ≡ l.fn.text ++ flat_map spec.entry_line l.entries
