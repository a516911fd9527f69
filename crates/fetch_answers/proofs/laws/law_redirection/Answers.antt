use Rattle.fetch_answers.proofs.LawLemmas.{keeps_redirection}
use Rattle.fetch_answers.proofs.laws.law_redirection.Goals as goal

pub returns : goal.returns
returns c = keeps_redirection
