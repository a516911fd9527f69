use Rattle.std.proofs.Common.{length, ◌-◌, ◌≡◌, take, ◌≤◌}
use Rattle.audit_replay.proofs.comparing.same_front.Given as goal

-- the texts are equal up to here
abbrev pub invariant-loop-count : goal.invariant-loop-count
invariant-loop-count l =
    (l.count ≤ length l.piece) × (l.count ≤ length l.rest) × (take l.count l.piece ≡ take l.count l.rest)

abbrev pub decreases-loop-count : goal.decreases-loop-count
decreases-loop-count l = length l.piece - l.count
