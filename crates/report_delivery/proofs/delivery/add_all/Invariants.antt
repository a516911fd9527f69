use Rattle.std.proofs.Common.{◌≡◌, ◌++◌}
use Rattle.report_delivery.proofs.delivery.add_all.Given as goal

abbrev pub invariant-loop-event : goal.invariant-loop-event
invariant-loop-event l = l.shown ≡ l.initial.shown ++ l.yielded
