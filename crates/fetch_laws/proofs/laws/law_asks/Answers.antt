use Rattle.fetch_laws.proofs.OwnLemmas.{run-asks}
use Rattle.fetch_laws.proofs.laws.law_asks.Goals as goal

pub returns : goal.returns
returns c = run-asks
