use Rattle.policy_filter.proofs.OwnViewLemmas.{own_view}
use Rattle.policy_filter.proofs.laws.law_own_view.Goals as goal

pub returns : goal.returns
returns c = own_view
