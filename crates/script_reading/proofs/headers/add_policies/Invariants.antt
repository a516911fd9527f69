use Rattle.std.proofs.Common.{◌≡◌, ◌++◌}
use Rattle.script_reading.proofs.headers.add_policies.Given as goal

abbrev pub invariant-loop-policy : goal.invariant-loop-policy
invariant-loop-policy l = l.policies ≡ l.fn.policies ++ l.yielded
