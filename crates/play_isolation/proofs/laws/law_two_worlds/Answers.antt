use Rattle.play_isolation.proofs.HistoryLemmas.{runs-alike}
use Rattle.play_isolation.proofs.PlayLemmas.{worlds-alike}
use Rattle.play_isolation.proofs.laws.law_two_worlds.Goals as goal

pub returns-clause-runs : goal.returns-clause-runs
returns-clause-runs g c = runs-alike c.law_pasts.ensures

pub returns-clause-plays : goal.returns-clause-plays
returns-clause-plays g c = worlds-alike c.law_pasts.ensures g.L.Link.State g.M.Link.State
