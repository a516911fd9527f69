use Rattle.std.proofs.Common.{length}
use Rattle.audit_text.specs.Private.Cuts.{HasRead}
use Rattle.audit_text.proofs.history.read_lines.Given as goal

abbrev pub invariant-loop-first : goal.invariant-loop-first
invariant-loop-first l = HasRead l.text l.rest l.history l.number

abbrev pub decreases-loop-first : goal.decreases-loop-first
decreases-loop-first l = length l.rest
