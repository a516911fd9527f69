use Rattle.play_laws.proofs.HiddenLemmas.{hides-opaque, hides-refused}
use Rattle.play_laws.proofs.laws.law_hidden.Goals as goal

pub returns-clause-opaque : goal.returns-clause-opaque
returns-clause-opaque c = hides-opaque

pub returns-clause-refused : goal.returns-clause-refused
returns-clause-refused c = hides-refused
