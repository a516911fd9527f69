use Rattle.policy_preflight.proofs.ViewLemmas.{checks-seen}
use Rattle.policy_preflight.proofs.laws.law_check_of_view.Goals as goal

pub returns : goal.returns
returns c = λ origin include head. checks-seen origin include head.headers
