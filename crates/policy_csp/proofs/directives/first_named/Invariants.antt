use Rattle.std.proofs.Common.{◌≡◌, drop, map}
use Rattle.policy_csp.specs.Directives.{deciding_sources}
use Rattle.policy_csp.proofs.directives.first_named.Given as goal

abbrev pub invariant-loop-name : goal.invariant-loop-name
invariant-loop-name l =
    deciding_sources (map (λ name. name.now) (drop l.name-index l.names)) l.directives
    ≡ deciding_sources (map (λ name. name.now) l.names) l.directives
