use Rattle.policy_csp.proofs.LawLemmas.{alike-from}
use Rattle.policy_csp.proofs.laws.law_violated_alike.Goals as goal

pub returns : goal.returns
returns c = λ policies request document. alike-from 0 policies request document
