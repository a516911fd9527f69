use Rattle.std.proofs.Common.{◌≡◌, ◌++◌}
use Rattle.c_fetch.proofs.settings.add_all.Given as goal

abbrev pub invariant-loop-policy : goal.invariant-loop-policy
invariant-loop-policy l = l.policies ≡ l.initial.policies ++ l.yielded
