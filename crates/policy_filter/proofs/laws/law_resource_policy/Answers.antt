use Rattle.policy_filter.proofs.LawLemmas.{keeps_resource_policy}
use Rattle.policy_filter.proofs.laws.law_resource_policy.Goals as goal

pub returns : goal.returns
returns c = keeps_resource_policy
