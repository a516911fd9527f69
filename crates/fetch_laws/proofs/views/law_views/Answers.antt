use Rattle.fetch_laws.proofs.AlikeLemmas.{goes-by_views, runs-alike, runs-apart}
use Rattle.fetch_laws.proofs.views.law_views.Goals as goal

pub returns-clause-blind : goal.returns-clause-blind
returns-clause-blind c = goes-by_views

pub returns-clause-apart : goal.returns-clause-apart
returns-clause-apart c = runs-apart

pub returns-clause-same : goal.returns-clause-same
returns-clause-same c = runs-alike
