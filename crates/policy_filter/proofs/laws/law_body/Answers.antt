use Rattle.policy_filter.proofs.LawLemmas.{keeps_body}
use Rattle.policy_filter.proofs.laws.law_body.Goals as goal

pub returns : goal.returns
returns c = keeps_body
