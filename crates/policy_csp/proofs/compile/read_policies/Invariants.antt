use Rattle.std.proofs.Common.{◌≡◌, ◌++◌, drop, map}
use Rattle.policy_csp.specs.Private.Kept.{kept_policy}
use Rattle.policy_csp.proofs.compile.read_policies.Given as goal

abbrev pub invariant-loop-policy : goal.invariant-loop-policy
invariant-loop-policy l = l.read ++ map kept_policy (drop l.policy-index l.policies) ≡ map kept_policy l.policies
