-- The clock at the end of a document's run is below 2^48: each command waits less than 2^32 seconds, and at most 16,384
-- start.
use Rattle.std.proofs.Common.{◌≡◌, ℕ, zero, suc, ◌+◌, ◌*◌, ◌<◌, ◌≤◌, Bool, true, false, cond, List, [], ◌∷◌, Option}
use Rattle.std.proofs.Common.{Some, None, Result, Ok, Err, refl, arith}
use Rattle.fetch_acts.specs.declared.act.Act.{Act}
use Rattle.fetch_acts.specs.declared.act.Input.{Input}
use Rattle.fetch_acts.specs.Process.{Process, act, ended}
use Rattle.fetch_definitions.specs.Fetch.{fetch}
use Rattle.fetch_wire.specs.Exchanges.{Answering}
use Rattle.play_definitions.specs.Playing.{RunPlayed}
use Rattle.play_definitions.specs.Worlds.{Outside}
use Rattle.script_scenarios.specs.Scripts.{Step, Steps}
use Rattle.script_scenarios.specs.Scripts as script
use Rattle.script_scenarios.specs.ValidScripts.{AreValid, IsValidStep}
use Rattle.script_events.specs.declared.events.Ending.{Ending}
use Rattle.script_events.specs.declared.events.Ending.TheVariants.{Finished}
use Rattle.script_events.specs.declared.events.Event.{Event}
use Rattle.script_runs.specs.Play.{Play, emit, events_of, over, step}
use Rattle.script_filling.specs.Results.{holds}
use Rattle.script_runs.specs.Runs.{Next, Progress, Setting, after_events, asked, at_time, beginning, chosen}
use Rattle.script_runs.specs.Runs.{command_run, document_run, embed, fault_event, fetch_started}
use Rattle.script_filling.specs.Filled.{filled_init, filled_load}
use Rattle.script_runs.specs.Runs.{fetched, finished, last_of, limit_before, outcome_event, repeated}
use Rattle.script_runs.specs.Runs.{script_run, setting_of, showing, start_event, started, unless_limit, waited}
use Rattle.script_runs.proofs.ScriptLemmas.{limit_before-none}
use Rattle.script_runs.specs.Traces.{PlayTrace, shown, stepped, stop}
use Rattle.script_scenarios.specs.declared.document.Document.{Document}
use Rattle.fetch_requests.specs.Loading.{new_load}
use Rattle.fetch_requests.specs.Making.{new_request}
use Rattle.value_requests.specs.declared.client.Cookie.{Cookie}
use Rattle.value_requests.specs.declared.fault.TypeFault.{TypeFault}
use Rattle.value_requests.specs.declared.policy.Destination.{Destination}
use Rattle.value_requests.specs.declared.policy.Destination.TheVariants as destination
use Rattle.value_requests.specs.declared.request.Request.{Request}
use Rattle.value_requests.specs.declared.response.Outcome.{Outcome}

-- each ending of the run is early
abbrev pub EndsEarly : Play → Type 0
EndsEarly (over ending clock) = clock < 281474976710656
EndsEarly (emit event rest) = EndsEarly rest
EndsEarly (step request first after) = (input : Input) → EndsEarly (after input)

-- no more seconds have passed than the commands that have started may wait
record InTime (base : ℕ) (progress : Progress) : Type 0 where
  pub few : progress.commands ≤ 16384
  pub early : progress.clock ≤ base + progress.commands * 4294967296

-- the command that has started has not waited yet
record InTimeToWait (base : ℕ) (progress : Progress) : Type 0 where
  pub few : progress.commands ≤ 16384
  pub early : progress.clock + 4294967296 ≤ base + progress.commands * 4294967296

module _ (base : ℕ) (soon : base ≤ 1099511627776) (lent : Setting) where
  -- what follows ends early where no more seconds have passed
  abbrev Early : Next → Type 0
  Early next = (progress : Progress) → InTime base progress → EndsEarly (next progress)

  abbrev EarlyBegun : Next → Type 0
  EarlyBegun next = (progress : Progress) → InTimeToWait base progress → EndsEarly (next progress)

  over-early : (ending : Ending) (progress : Progress) → InTime base progress → EndsEarly (over ending progress.clock)
  over-early ending progress in_time = omega (arith, in_time.few, in_time.early, soon)

  begun-early : (next : Next) → Early next → EarlyBegun next
  begun-early next early progress begun =
      early progress (record { few = begun.few; early = omega (arith, begun.early) })

  showing-early : (one : Event) (next : Next) → Early next → Early (showing one next)
  showing-early one next early progress in_time =
      early (after_events (one ∷ []) progress) (record { few = in_time.few; early = in_time.early })

  embed-early : (process : Process) (next : Outcome → Next) → ((came : Outcome) → Early (next came))
      → Early (embed process next)
  embed-early (ended outcome) next early = early outcome
  embed-early (act request first after) next early = λ progress in_time input.
      embed-early (after input) next early (after_events (events_of first input) progress)
      (record { few = in_time.few; early = in_time.early })

  fetched-early : (kind : Destination) (made : Result Request TypeFault) (next : Next) → Early next
      → Early (fetched lent kind made next)
  fetched-early kind (Err fault) next early = showing-early (fault_event kind fault) next early
  fetched-early kind (Ok request) next early = λ progress in_time.
      embed-early (fetch (at_time lent progress.clock) request) (λ came. showing (outcome_event kind came) next)
      (λ came. showing-early (outcome_event kind came) next early) progress in_time

  asked-early : (kind : Destination) (made : Result Request TypeFault) (next : Next) → Early next
      → EarlyBegun (asked lent kind made next)
  asked-early kind made next early progress begun =
      showing-early (start_event kind progress.fetches) (fetched lent kind made next)
      (fetched-early kind made next early) (fetch_started progress)
      (record { few = begun.few; early = omega (arith, begun.early) })

  repeated-early : (times : ℕ) (part : Next → Next) → ((next : Next) → Early next → Early (part next))
      → (next : Next) → Early next → Early (repeated times part next)
  repeated-early zero part keeps next early = early
  repeated-early (suc n) part keeps next early =
      keeps (repeated n part next) (repeated-early n part keeps next early)

  if-early : (b : Bool) (p q : Play) → EndsEarly p → EndsEarly q → EndsEarly (cond b p q)
  if-early true p q x y = x
  if-early false p q x y = y

  unless-early : (one : Step) (next : Next) → EarlyBegun next → (progress : Progress) → InTime base progress
      → (limit : Option Ending) → limit_before one progress ≡ limit
      → EndsEarly (unless_limit limit (λ begun. next (started begun)) progress)
  unless-early one next early progress in_time (Some ending) is = over-early ending progress in_time
  unless-early one next early progress in_time None is =
      let few : progress.commands < 16384 = limit_before-none one progress is in
      early (started progress) (record { few = omega (arith, few); early = omega (arith, in_time.early) })

  mutual
    command-early : (one : Step) → IsValidStep one → (next : Next) → Early next → EarlyBegun (command_run lent one next)
    command-early (script.fetch init) valid next early = λ progress begun.
        asked-early destination.Fetch (new_request lent.client (filled_init (last_of progress) init)) next early
        progress begun
    command-early (script.load init) valid next early = λ progress begun.
        asked-early init.kind (new_load lent.client (filled_load (last_of progress) init)) next early progress begun
    command-early (script.wait seconds) valid next early = λ progress begun.
        early (waited seconds progress)
        (record { few = begun.few; early = omega (arith, begun.early, valid) })
    command-early (script.repeat times part) valid next early =
        begun-early (repeated times (script_run lent part) next)
        (repeated-early times (script_run lent part) (λ rest after. script-early part valid.1 rest after) next early)
    command-early (script.choose test part another) valid next early =
        begun-early (chosen test (script_run lent part) (script_run lent another) next)
        (λ progress in_time. if-early (holds test (last_of progress)) (script_run lent part next progress)
        (script_run lent another next progress) (script-early part valid.1.0 next early progress in_time)
        (script-early another valid.1.1 next early progress in_time))

    script-early : (steps : Steps) → AreValid steps → (next : Next) → Early next → Early (script_run lent steps next)
    script-early script.no_steps valid next early = early
    script-early (script.step one more) valid next early = λ progress in_time.
        unless-early one (command_run lent one (script_run lent more next))
        (command-early one valid.0 (script_run lent more next) (script-early more valid.1 next early)) progress in_time
        (limit_before one progress) refl

-- a document's run ends early
pub document-early : (cookies : List Cookie) (base : ℕ) (document : Document) → base ≤ 1099511627776
    → AreValid document.script → EndsEarly (document_run cookies base document)
document-early cookies base document soon valid =
    script-early base soon (setting_of cookies document) document.script valid finished
    (λ progress in_time. over-early base soon (setting_of cookies document) Finished progress in_time)
    (beginning base) (record { few = omega arith; early = omega arith })

module _ {World : Type 0} {answers : World → Act → Input → World → Type 0} {settles : Event → World → World → Type 0}
  where
    -- so does what is left of it
    trace-early : {p q : Play} {a b : World} {t : List Input} {e : List Event}
        → PlayTrace answers settles p a t e q b → EndsEarly p → EndsEarly q
    trace-early stop early = early
    trace-early (shown one is x) early = trace-early x early
    trace-early (stepped request first after input is fit x) early = trace-early x (early input)

-- the time at which it has ended
pub ran-early : {State : Type 0} (by : Answering State) (limit number : ℕ) (whole : Play) (old : Outside State)
    (events : List Event) (ending : Ending) (clock : ℕ) (new : Outside State)
    → RunPlayed by limit number whole old events ending clock new → EndsEarly whole → clock < 281474976710656
ran-early by limit number whole old events ending clock new ran early = trace-early ran.trace early
