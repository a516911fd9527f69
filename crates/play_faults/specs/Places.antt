-- Where the link may fail in a document's run: once in a fetch at most, whose outcome shows it (this project's own
-- definition).
use Rattle.std.specs.Prelude.{◌≡◌, IsTrue, Option, Some, None}
use Rattle.value_requests.specs.declared.response.Outcome.{Outcome}
use Rattle.value_requests.specs.declared.response.Outcome.TheVariants.{Error}
use Rattle.fetch_acts.specs.declared.act.Input.{Input}
use Rattle.fetch_acts.specs.Process.{fits}
use Rattle.script_events.specs.declared.events.Event.{Event}
use Rattle.script_events.specs.declared.events.Event.TheVariants.{LoadFailed, Result}
use Rattle.script_runs.specs.Play.{Play, emit, over, step}
use Rattle.play_faults.specs.Failures.{Failure, IsOnlyOne, ShowsFailure, owed_after}

-- the outcome of a fetch or a load that an event shows, where it shows one
abbrev pub outcome_of : Event → Option Outcome
outcome_of (Result came) = Some came
outcome_of (LoadFailed error) = Some (Error error)
outcome_of shown = None

-- an outcome shows how the link failed in its fetch, or that it did not
abbrev pub IsShown : Option Failure → Option Outcome → Type 0
IsShown failure None = Unit {0}
IsShown failure (Some came) = ShowsFailure failure came

-- what is still to be shown then
abbrev pub left_after : Option Outcome → Option Failure → Option Failure
left_after None failure = failure
left_after (Some came) failure = None

-- whatever comes of its acts: where the link has failed so in a fetch, or not, it does not fail again before the fetch
-- has come to an outcome, which shows it; and so on, to the end of the run
abbrev pub ShowsFailures : Option Failure → Play → Type 0
ShowsFailures failure (over ending clock) = failure ≡ None
ShowsFailures failure (emit shown rest) =
    IsShown failure (outcome_of shown) × ShowsFailures (left_after (outcome_of shown) failure) rest
ShowsFailures failure (step request first after) =
    (input : Input) → IsTrue (fits first input)
    → IsOnlyOne failure input × ShowsFailures (owed_after request input failure) (after input)
