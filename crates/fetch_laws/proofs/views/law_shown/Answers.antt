use Rattle.fetch_laws.proofs.AlikeLemmas.{shows-alike}
use Rattle.fetch_laws.proofs.views.law_shown.Goals as goal

pub returns : goal.returns
returns g c = shows-alike
