use Rattle.book_turns.proofs.Count.{turns-are-places}
use Rattle.book_turns.proofs.laws.law_turns.Goals as goal

pub returns : goal.returns
returns c = turns-are-places
