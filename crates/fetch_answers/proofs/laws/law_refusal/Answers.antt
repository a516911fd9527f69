use Rattle.fetch_answers.proofs.LawLemmas.{keeps_refusal}
use Rattle.fetch_answers.proofs.laws.law_refusal.Goals as goal

pub returns : goal.returns
returns c = keeps_refusal
