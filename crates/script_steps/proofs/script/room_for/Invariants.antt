use Rattle.std.proofs.Common.{ℕ, length}
use Rattle.script_steps.proofs.script.room_for.Given as goal

abbrev pub decreases-loop-count : goal.decreases-loop-count
decreases-loop-count l = length l.items
