use Rattle.fetch_laws.proofs.OwnLemmas.{run-own}
use Rattle.fetch_laws.proofs.laws.law_own_ops.Goals as goal

pub returns : goal.returns
returns c = run-own
