use Rattle.std.proofs.Common.{◌≡◌, ◌≤◌, ◌++◌, drop, true}
use Rattle.program_cspreport.specs.Text.{reports_text}
use Rattle.program_cspreport.proofs.text.add_reports.Given as goal

-- the lines of the events so far were added, and those of the others follow
abbrev pub invariant-loop-event : goal.invariant-loop-event
invariant-loop-event l = record {
  lines : l.text ++ reports_text l.begins l.number (drop l.event-index l.events)
      ≡ l.fn.text ++ reports_text true 0 l.events;
  few : l.number ≤ l.event-index;
}
