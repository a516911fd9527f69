use Rattle.policy_filter.proofs.LawLemmas.{keeps_filtered}
use Rattle.policy_filter.proofs.laws.law_filtered.Goals as goal

pub returns : goal.returns
returns c = keeps_filtered
