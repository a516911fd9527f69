use Rattle.play_laws.proofs.InOrderLemmas.{one-in_order}
use Rattle.play_laws.proofs.laws.law_one_in_order.Goals as goal

pub returns : goal.returns
returns c = one-in_order c.law_one_end.ensures
