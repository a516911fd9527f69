use Rattle.book_text.proofs.BookLemmas.{reads-only-written, reads-written}
use Rattle.book_text.proofs.laws.law_read_written.Goals as goal

pub returns-clause-written : goal.returns-clause-written
returns-clause-written c = reads-written

pub returns-clause-only : goal.returns-clause-only
returns-clause-only c = reads-only-written
