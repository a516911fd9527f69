use Rattle.std.proofs.Common.{Some}
use Rattle.policy_csp.proofs.LawLemmas.{none-from}
use Rattle.policy_csp.proofs.laws.law_empty_as_none.Goals as goal

pub returns : goal.returns
returns c = λ policies request document enforced. none-from 0 (Some enforced) policies request document
