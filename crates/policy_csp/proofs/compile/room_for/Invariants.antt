use Rattle.std.proofs.Common.{length}
use Rattle.policy_csp.proofs.compile.room_for.Given as goal

abbrev pub decreases-loop-rest : goal.decreases-loop-rest
decreases-loop-rest l = length l.left
