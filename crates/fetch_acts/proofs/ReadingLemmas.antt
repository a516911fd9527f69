-- The run is a reading.
use Rattle.std.proofs.Common.{◌≡◌, List, [], ◌∷◌, ap, cond, refl}
use Rattle.fetch_acts.specs.Process.{Process, Run, act, began, ended, fits, nothing, run}
use Rattle.fetch_acts.specs.Readings.{read, runs}
use Rattle.fetch_acts.specs.declared.act.Input.{Input}

-- what is read as a run is the run
pub run-read : (process : Process) (tape : List Input) → run process tape ≡ read runs process tape
run-read (ended outcome) tape = refl
run-read (act request first after) [] = refl
run-read (act request first after) (input ∷ tape) = ap (λ (rest : Run). began first (cond
    (fits first input) rest nothing)) (run-read (after input) tape)
