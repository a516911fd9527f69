use Rattle.policy_preflight.proofs.ViewLemmas.{verdict-seen}
use Rattle.policy_preflight.proofs.laws.law_verdict_of_view.Goals as goal

pub returns : goal.returns
returns c = verdict-seen
