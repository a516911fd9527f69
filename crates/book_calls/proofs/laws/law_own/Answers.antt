use Rattle.book_calls.proofs.EntryLemmas.{last-of-its-document}
use Rattle.book_calls.proofs.laws.law_own.Goals as goal

pub returns : goal.returns
returns c = last-of-its-document
