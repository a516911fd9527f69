use Rattle.play_laws.proofs.MigrationLemmas.{migrated-alike}
use Rattle.play_laws.proofs.laws.law_migrated.Goals as goal

pub returns : goal.returns
returns c = migrated-alike
