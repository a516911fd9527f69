use Rattle.fetch_answers.proofs.LawLemmas.{keeps_ending}
use Rattle.fetch_answers.proofs.laws.law_ending.Goals as goal

pub returns : goal.returns
returns c = keeps_ending
