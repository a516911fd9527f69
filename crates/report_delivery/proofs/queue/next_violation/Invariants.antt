use Rattle.std.proofs.Common.{◌≡◌, ◌≤◌, length}
use Rattle.report_delivery.specs.Reports.{violations_told}
use Rattle.report_delivery.proofs.queue.next_violation.Given as goal

abbrev pub invariant-loop-event : goal.invariant-loop-event
invariant-loop-event l =
    (violations_told l.events ≡ violations_told l.left) × (length l.left ≤ length l.events)

abbrev pub decreases-loop-event : goal.decreases-loop-event
decreases-loop-event l = length l.left
