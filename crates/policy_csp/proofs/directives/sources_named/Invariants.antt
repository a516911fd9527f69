use Rattle.std.proofs.Common.{◌≡◌, drop}
use Rattle.policy_csp.specs.Directives.{sources_named}
use Rattle.policy_csp.proofs.directives.sources_named.Given as goal

abbrev pub invariant-loop-directive : goal.invariant-loop-directive
invariant-loop-directive l =
    sources_named l.name (drop l.directive-index l.directives) ≡ sources_named l.name l.directives
