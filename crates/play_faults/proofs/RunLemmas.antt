-- A document's run shows how the link failed in each of its fetches.
use Rattle.std.proofs.Common.{◌≡◌, ℕ, Option, Some, None, [], ◌∷◌, refl, subst, sym}
use Rattle.value_requests.specs.declared.fault.TypeFault.{TypeFault}
use Rattle.value_requests.specs.declared.policy.Destination.{Destination}
use Rattle.value_requests.specs.declared.policy.Destination.TheVariants as destination
use Rattle.value_requests.specs.declared.response.Outcome.{Outcome}
use Rattle.value_requests.specs.declared.response.Outcome.TheVariants as outcome
use Rattle.script_events.specs.declared.events.Event.{Event}
use Rattle.fetch_acts.specs.Process.{Process, act, ended}
use Rattle.fetch_definitions.specs.Fetch.{fetch}
use Rattle.script_runs.specs.Play.{Play, emit, events_of}
use Rattle.script_runs.specs.Runs.{Next, Progress, after_events, at_time, embed, fault_event, load_event}
use Rattle.script_runs.specs.Runs.{outcome_event}
use Rattle.script_runs.specs.Runs.{setting_of, showing, start_event}
use Rattle.script_runs.proofs.ScriptLemmas.{good-document}
use Rattle.play_faults.specs.Failures.{Failure, ShowsFailure, owed_after}
use Rattle.play_faults.specs.Laws.{FaultsPlaced}
use Rattle.play_faults.specs.Places.{IsShown, ShowsFailures, left_after, outcome_of}
use Rattle.play_faults.proofs.FetchLemmas.{Shows, shows-fetch}

-- ---- events

-- it shows no outcome
abbrev ShowsNoOutcome : Event → Type 0
ShowsNoOutcome shown = outcome_of shown ≡ None

start-silent : (kind : Destination) (number : ℕ) → ShowsNoOutcome (start_event kind number)
start-silent destination.Fetch number = refl
start-silent kind number = refl

fault-silent : (kind : Destination) (fault : TypeFault) → ShowsNoOutcome (fault_event kind fault)
fault-silent destination.Fetch fault = refl
fault-silent kind fault = refl

load-is : (came : Outcome) → outcome_of (load_event came) ≡ Some came
load-is (outcome.Error error) = refl
load-is came = refl

outcome-is : (kind : Destination) (came : Outcome) → outcome_of (outcome_event kind came) ≡ Some came
outcome-is destination.Fetch came = refl
outcome-is kind came = load-is came

-- an event, by the outcome that it shows
emits : (failure : Option Failure) (shown : Event) (rest : Play) (came : Option Outcome) → outcome_of shown ≡ came
    → IsShown failure came → ShowsFailures (left_after came failure) rest → ShowsFailures failure (emit shown rest)
emits failure shown rest came is shows goes =
    subst (λ (o : Option Outcome). IsShown failure o × ShowsFailures (left_after o failure) rest) (sym is)
    (shows, goes)

-- ---- a fetch

embeds : (failure : Option Failure) (process : Process) (next : Outcome → Next) (progress : Progress)
    → Shows failure process
    → ((last : Option Failure) (came : Outcome) (later : Progress) → ShowsFailure last came
    → ShowsFailures last (next came later))
    → ShowsFailures failure (embed process next progress)
embeds failure (ended came) next progress shows goes = goes failure came progress shows
embeds failure (act request first after) next progress shows goes = λ input fit. (
  (shows input fit).0,
  embeds (owed_after request input failure) (after input) next (after_events (events_of first input) progress)
      (shows input fit).1 goes,
)

-- ---- every document's run

pub faults-placed : FaultsPlaced
faults-placed cookies base document = good-document cookies base document (ShowsFailures None) (record {
  at_end = λ ending clock. refl;
  at_start = λ kind number rest goes. emits None (start_event kind number) rest None (start-silent kind number) tt goes;
  at_fault = λ kind fault rest goes. emits None (fault_event kind fault) rest None (fault-silent kind fault) tt goes;
  at_fetch = λ kind request next progress made stands goes.
      let context = at_time (setting_of cookies document) progress.clock in
      embeds None (fetch context request) (λ came. showing (outcome_event kind came) next) progress
      (shows-fetch context request)
      (λ last came later shows.
      emits last (outcome_event kind came) (next (after_events (outcome_event kind came ∷ []) later)) (Some came)
      (outcome-is kind came) shows (goes (after_events (outcome_event kind came ∷ []) later) tt));
})
