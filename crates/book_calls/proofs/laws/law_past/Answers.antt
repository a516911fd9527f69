use Rattle.book_calls.proofs.PastLemmas.{past-replies}
use Rattle.book_calls.proofs.laws.law_past.Goals as goal

pub returns : goal.returns
returns c = past-replies c.law_lessons.ensures c.law_clears.ensures
