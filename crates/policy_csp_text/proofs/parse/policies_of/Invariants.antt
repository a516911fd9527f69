use Rattle.std.proofs.Common.{◌≡◌, ◌++◌, drop, filter, map}
use Rattle.policy_csp_text.specs.Policies.{has_directives, policy_of}
use Rattle.policy_csp_text.proofs.parse.policies_of.Given as goal

abbrev pub invariant-loop-text : goal.invariant-loop-text
invariant-loop-text l =
    l.policies
    ++ filter has_directives (map (policy_of l.enforced) (map (λ text. text.now) (drop l.text-index l.texts)))
    ≡ filter has_directives (map (policy_of l.enforced) (map (λ text. text.now) l.texts))
