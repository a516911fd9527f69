use Rattle.play_isolation.proofs.HistoryLemmas.{runs-apart}
use Rattle.play_isolation.proofs.laws.law_apart.Goals as goal

pub returns : goal.returns
returns c = runs-apart
