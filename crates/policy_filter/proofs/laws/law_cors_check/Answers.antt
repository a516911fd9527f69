use Rattle.policy_filter.proofs.LawLemmas.{keeps_cors_check}
use Rattle.policy_filter.proofs.laws.law_cors_check.Goals as goal

pub returns : goal.returns
returns c = keeps_cors_check
