use Rattle.play_isolation.proofs.HistoryLemmas.{runs-alone}
use Rattle.play_isolation.proofs.laws.law_alone.Goals as goal

pub returns : goal.returns
returns c = runs-alone c.law_pasts.ensures
