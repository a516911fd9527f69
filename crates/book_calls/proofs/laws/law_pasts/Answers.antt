use Rattle.book_calls.proofs.PastsLemmas.{pasts-answer}
use Rattle.book_calls.proofs.laws.law_pasts.Goals as goal

pub returns : goal.returns
returns c = pasts-answer c.law_past.ensures
