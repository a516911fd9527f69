use Rattle.std.proofs.Common.{length}
use Rattle.audit_text.specs.Private.Cuts.{Passes}
use Rattle.audit_text.proofs.history.after_heading.Given as goal

abbrev pub invariant-loop-first : goal.invariant-loop-first
invariant-loop-first l = Passes l.play l.rest

abbrev pub decreases-loop-first : goal.decreases-loop-first
decreases-loop-first l = length l.rest
