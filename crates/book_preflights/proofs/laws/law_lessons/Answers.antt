use Rattle.book_preflights.proofs.KeyLaws.{entries_of-learned}
use Rattle.book_preflights.proofs.laws.law_lessons.Goals as goal

pub returns : goal.returns
returns c = entries_of-learned
