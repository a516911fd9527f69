use Rattle.value_lists.proofs.SplitLemmas.{ended-there}
use Rattle.value_lists.proofs.split.Splitter.take.Goals as goal

pub returns-in_ok-end_piece-in-None : goal.returns-in_ok-end_piece-in-None
returns-in_ok-end_piece-in-None c =
    λ rest. rw (c.in_ok-end_piece-in-None.ensures.pieces, c.in_ok-end_piece-in-None.ensures.piece)
    (ended-there _ _ rest _ (c.in-None.ensures rest))
