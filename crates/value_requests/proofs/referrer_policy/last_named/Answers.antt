use Rattle.std.proofs.Common.{map}
use Rattle.std.specs.List.{filter_map}
use Rattle.value_text.specs.Trims.{tab_or_space, trimmed}
use Rattle.value_requests.specs.ReferrerPolicies.{policy_named}
use Rattle.value_requests.specs.declared.mode.ReferrerPolicy.TheVariants.{Empty}
use Rattle.value_requests.proofs.PolicyLemmas.{last-default}
use Rattle.value_requests.proofs.referrer_policy.last_named.Goals as goal

pub loop-part-init : goal.loop-part-init
loop-part-init c =
    last-default Empty
    (filter_map policy_named (map (trimmed tab_or_space) (map (λ part. part.now) c.args.parts.now)))
