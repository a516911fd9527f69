use Rattle.policy_filter.proofs.LawLemmas.{keeps_redirect}
use Rattle.policy_filter.proofs.laws.law_redirect.Goals as goal

pub returns : goal.returns
returns c = keeps_redirect
