use Rattle.std.proofs.Common.{◌≡◌, drop, map, unwrap_or, None, Some}
use Rattle.std.specs.List.{filter_map, last_or}
use Rattle.value_text.specs.Trims.{tab_or_space, trimmed}
use Rattle.value_requests.specs.ReferrerPolicies.{policy_named}
use Rattle.value_requests.specs.declared.mode.ReferrerPolicy.TheVariants.{Empty}
use Rattle.value_requests.proofs.referrer_policy.last_named.Given as goal

abbrev pub invariant-loop-part : goal.invariant-loop-part
invariant-loop-part l =
    unwrap_or (last_or (Some l.last)
    (filter_map policy_named (map (trimmed tab_or_space) (map (λ part. part.now) (drop l.part-index l.parts))))) Empty
    ≡ unwrap_or (last_or None
    (filter_map policy_named (map (trimmed tab_or_space) (map (λ part. part.now) l.parts)))) Empty
