use Rattle.std.proofs.Common.{◌≡◌, drop}
use Rattle.std.specs.List.{find}
use Rattle.std.specs.Str.{str_eq_ignore_ascii_case}
use Rattle.value_requests.specs.Names.{policy_name}
use Rattle.value_requests.proofs.referrer_policy.first_named.Given as goal

abbrev pub invariant-loop-policy : goal.invariant-loop-policy
invariant-loop-policy l =
    find (λ named. str_eq_ignore_ascii_case (policy_name named) l.token) (drop l.policy-index l.policies)
    ≡ find (λ named. str_eq_ignore_ascii_case (policy_name named) l.token) l.policies
