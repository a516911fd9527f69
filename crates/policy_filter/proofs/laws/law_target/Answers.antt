use Rattle.policy_filter.proofs.LawLemmas.{keeps_target}
use Rattle.policy_filter.proofs.laws.law_target.Goals as goal

pub returns : goal.returns
returns c = keeps_target
