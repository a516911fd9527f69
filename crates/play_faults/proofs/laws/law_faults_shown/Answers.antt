use Rattle.play_faults.proofs.NumberLemmas.{faults-shown}
use Rattle.play_faults.proofs.RunLemmas.{faults-placed}
use Rattle.play_faults.proofs.laws.law_faults_shown.Goals as goal

pub returns-clause-placed : goal.returns-clause-placed
returns-clause-placed c = faults-placed

pub returns-clause-shown : goal.returns-clause-shown
returns-clause-shown c = faults-shown
