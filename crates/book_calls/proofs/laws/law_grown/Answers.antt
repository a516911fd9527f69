use Rattle.book_calls.proofs.EntryLemmas.{grown}
use Rattle.book_calls.proofs.laws.law_grown.Goals as goal

pub returns : goal.returns
returns c = grown
