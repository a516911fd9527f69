use Rattle.fetch_answers.proofs.LawLemmas.{keeps_redirected}
use Rattle.fetch_answers.proofs.laws.law_redirected.Goals as goal

pub returns : goal.returns
returns c = keeps_redirected
