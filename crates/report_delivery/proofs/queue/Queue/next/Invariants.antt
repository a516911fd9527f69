use Rattle.std.proofs.Common.{◌≡◌, length}
use Rattle.report_delivery.specs.Private.Queues.{reports_left}
use Rattle.report_delivery.proofs.queue.Queue.next.Given as goal

abbrev pub invariant-loop-report : goal.invariant-loop-report
invariant-loop-report l = reports_left l.initial.self ≡ reports_left l.self

abbrev pub decreases-loop-report : goal.decreases-loop-report
decreases-loop-report l = length l.self.events.now
