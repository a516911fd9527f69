-- How often the link fails in a document's run, and how many of its outcomes tell so (this project's own definition).
use Rattle.std.specs.Prelude.{ℕ, ◌+◌, Bool, List, [], ◌∷◌, Option, Some, None, if◌then◌else◌}
use Rattle.std.specs.List.{sum_by}
use Rattle.value_requests.specs.declared.response.Outcome.{Outcome}
use Rattle.fetch_acts.specs.declared.act.Input.{Input}
use Rattle.fetch_acts.specs.Process.{fits}
use Rattle.fetch_wire.specs.Exchanges.{is_fault}
use Rattle.script_events.specs.declared.events.Ending.{Ending}
use Rattle.script_events.specs.declared.events.Event.{Event}
use Rattle.script_runs.specs.Play.{Play, emit, over, step}
use Rattle.play_faults.specs.Places.{outcome_of}

-- 1 for true, 0 for false
abbrev pub one_where : Bool → ℕ
one_where is = if is then 1 else 0

-- how many inputs of a tape that a run takes tell that the link failed
abbrev pub faults_of : Play → List Input → ℕ
faults_of (over ending clock) tape = 0
faults_of (emit shown rest) tape = faults_of rest tape
faults_of (step request first after) [] = 0
faults_of (step request first after) (input ∷ tape) =
    if fits first input then one_where (is_fault input) + faults_of (after input) tape else 0

-- 1 where there is an outcome that passes the test, else 0
abbrev pub one_if : (Outcome → Bool) → Option Outcome → ℕ
one_if is None = 0
one_if is (Some came) = one_where (is came)

-- how many of the outcomes that events show pass the test
abbrev pub outcomes_that : (Outcome → Bool) → List Event → ℕ
outcomes_that is events = sum_by (λ shown. one_if is (outcome_of shown)) events

-- how many failures may have come that no outcome shows yet: one, unless the run is over
abbrev pub unshown : Option (Ending × ℕ) → ℕ
unshown None = 1
unshown (Some ending) = 0
