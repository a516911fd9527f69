use Rattle.fetch_session.proofs.CutLemmas.{pieces_join}
use Rattle.fetch_session.proofs.laws.law_pieces_join.Goals as goal

pub returns : goal.returns
returns c = pieces_join c.law_one_head.ensures c.law_one_end.ensures
