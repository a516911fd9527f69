use Rattle.book_turns.proofs.Whole.{whole_of}
use Rattle.book_turns.proofs.laws.law_whole.Goals as goal

pub returns : goal.returns
returns c = whole_of
