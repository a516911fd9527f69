use Rattle.play_faults.proofs.TraceLemmas.{faults-counted, faults-counted_cut, ran-shown, told}
use Rattle.play_faults.proofs.laws.law_faults_counted.Goals as goal

pub returns-clause-ran : goal.returns-clause-ran
returns-clause-ran g c = faults-counted g.L.Link.State

pub returns-clause-began : goal.returns-clause-began
returns-clause-began g c = faults-counted_cut g.L.Link.State

pub returns-clause-told : goal.returns-clause-told
returns-clause-told g c = told g.L.Link.State

pub returns-clause-shown : goal.returns-clause-shown
returns-clause-shown g c = ran-shown g.L.Link.State
