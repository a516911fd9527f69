use Rattle.std.proofs.Common.{◌≡◌, drop, not}
use Rattle.std.specs.List.{find}
use Rattle.policy_preflight.specs.Verdict.{has_name}
use Rattle.policy_preflight.proofs.allowed.first_of_few.Given as goal

-- all so far are listed
abbrev pub invariant-loop-name : goal.invariant-loop-name
invariant-loop-name l =
    find (λ name. not (has_name name l.names)) l.unsafe_names
    ≡ find (λ name. not (has_name name l.names)) (drop l.name-index l.unsafe_names)
