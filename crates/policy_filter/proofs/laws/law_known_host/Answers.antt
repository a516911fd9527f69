use Rattle.policy_filter.proofs.LawLemmas.{keeps_known_host}
use Rattle.policy_filter.proofs.laws.law_known_host.Goals as goal

pub returns : goal.returns
returns c = keeps_known_host
