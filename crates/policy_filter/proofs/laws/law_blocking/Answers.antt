use Rattle.policy_filter.proofs.LawLemmas.{keeps_blocking}
use Rattle.policy_filter.proofs.laws.law_blocking.Goals as goal

pub returns : goal.returns
returns c = keeps_blocking
