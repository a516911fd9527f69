use Rattle.play_isolation.proofs.PlayLemmas.{plays-alone}
use Rattle.play_isolation.proofs.laws.law_isolated.Goals as goal

pub returns : goal.returns
returns g c = plays-alone c.law_pasts.ensures g.L.Link.State
