use Rattle.std.proofs.Common.{◌≡◌, ◌++◌, drop}
use Rattle.policy_csp.specs.Violations.{violations_from}
use Rattle.policy_csp.proofs.check.violations.Given as goal

abbrev pub invariant-loop-index : goal.invariant-loop-index
invariant-loop-index l =
    l.found ++ violations_from l.index l.asked (drop l.index l.policies) l.request l.document
    ≡ violations_from 0 l.asked l.policies l.request l.document
