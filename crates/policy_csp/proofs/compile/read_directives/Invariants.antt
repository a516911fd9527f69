use Rattle.std.proofs.Common.{◌≡◌, ◌++◌, drop, filter, map}
use Rattle.policy_csp.specs.Private.Kept.{is_kept}
use Rattle.policy_csp.specs.Reading.{read_directive}
use Rattle.policy_csp.proofs.compile.read_directives.Given as goal

abbrev pub invariant-loop-directive : goal.invariant-loop-directive
invariant-loop-directive l =
    l.read ++ map read_directive (filter is_kept (drop l.directive-index l.directives))
    ≡ map read_directive (filter is_kept l.directives)
