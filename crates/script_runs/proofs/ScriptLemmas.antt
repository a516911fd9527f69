-- What holds of each fetch and each load of a run holds of the whole script.
use Rattle.std.proofs.Common.{◌≡◌, ◌<◌, ℕ, zero, suc, Bool, true, false, cond, [], ◌∷◌, List, Option, Some, None, refl}
use Rattle.std.proofs.Common.{Result, Ok, Err, arith}
use Rattle.std.specs.Prelude.{if◌then◌else◌, nat_le}
use Rattle.value_requests.specs.declared.client.Client.{Client}
use Rattle.value_requests.specs.declared.client.Cookie.{Cookie}
use Rattle.value_requests.specs.declared.fault.TypeFault.{TypeFault}
use Rattle.value_requests.specs.declared.init.Init.{Init}
use Rattle.value_requests.specs.declared.init.LoadInit.{LoadInit}
use Rattle.value_requests.specs.declared.policy.Destination.{Destination}
use Rattle.value_requests.specs.declared.policy.Destination.TheVariants as destination
use Rattle.value_requests.specs.declared.request.Request.{Request}
use Rattle.fetch_requests.specs.Loading.{new_load}
use Rattle.fetch_requests.specs.Making.{new_request}
use Rattle.script_scenarios.specs.Scripts.{Step, Steps}
use Rattle.script_scenarios.specs.Scripts as script
use Rattle.script_scenarios.specs.declared.command.Test.{Test}
use Rattle.script_scenarios.specs.declared.document.Document.{Document}
use Rattle.script_events.specs.declared.events.Ending.{Ending}
use Rattle.script_events.specs.declared.events.Ending.TheVariants.{Commands, Finished}
use Rattle.script_events.specs.declared.events.Event.{Event}
use Rattle.fetch_definitions.specs.Fetch.{fetch}
use Rattle.script_runs.specs.Play.{Play, over, emit}
use Rattle.script_filling.specs.Results.{holds}
use Rattle.script_runs.specs.Runs.{Next, Progress, Setting, after_events, asked, at_time, beginning, chosen}
use Rattle.script_runs.specs.Runs.{command_run}
use Rattle.script_filling.specs.Filled.{filled_init, filled_load}
use Rattle.script_runs.specs.Runs.{document_run, embed, fault_event, fetch_started, fetched}
use Rattle.script_runs.specs.Runs.{finished, last_of, limit_before, most_commands, outcome_event, own_limit, repeated}
use Rattle.script_runs.specs.Runs.{script_run, setting_of, showing, start_event, started, unless_limit, waited}

-- ---- what a script asks for

-- a request that a script of this client makes, of a fetch or of a load
pub data IsMade (client : Client) : Request → Type 0 where
  by_fetch : {request : Request} (init : Init) → new_request client init ≡ Ok request → IsMade client request
  by_load : {request : Request} (init : LoadInit) → new_load client init ≡ Ok request → IsMade client request

-- ---- how far a run has come

-- each wait of a script is as it should be
abbrev mutual
  pub WaitsOfStep : (ℕ → Type 0) → Step → Type 0
  WaitsOfStep Waits (script.fetch init) = Unit {0}
  WaitsOfStep Waits (script.load init) = Unit {0}
  WaitsOfStep Waits (script.wait seconds) = Waits seconds
  WaitsOfStep Waits (script.repeat times part) = AllWaits Waits part
  WaitsOfStep Waits (script.choose test part another) = AllWaits Waits part × AllWaits Waits another

  pub AllWaits : (ℕ → Type 0) → Steps → Type 0
  AllWaits Waits script.no_steps = Unit {0}
  AllWaits Waits (script.step one more) = WaitsOfStep Waits one × AllWaits Waits more

-- while a command may start, fewer have started than a run may have
pub limit_before-none : (one : Step) (progress : Progress) → limit_before one progress ≡ None
    → progress.commands < most_commands
limit_before-none one progress none = by (nat_le most_commands progress.commands) refl none
  where
    by : (most : Bool) → nat_le most_commands progress.commands ≡ most
        → (if most then Some Commands else own_limit one progress) ≡ None → progress.commands < most_commands
    by true is without = absurd (cc)
    by false is without = grind (arith, is)

-- What holds of how far a run has come, and of a command that has started.
pub record Bounds (Stands Begun : Progress → Type 0) (Waits : ℕ → Type 0) : Type 0 where
  pub showing : (events : List Event) (progress : Progress) → Stands progress → Stands (after_events events progress)
  pub asks : (progress : Progress) → Begun progress → Stands (fetch_started progress)
  pub rests : (progress : Progress) → Begun progress → Stands progress
  pub waits : (seconds : ℕ) (progress : Progress) → Waits seconds → Begun progress → Stands (waited seconds progress)
  pub begins : (one : Step) (progress : Progress) → limit_before one progress ≡ None → Stands progress
      → Begun (started progress)

-- ---- the script

-- What is good of a run, by how far it has come: an ending; the start of a fetch or a load, and a fault in the place of
-- a request, before what is good; and a fetch, with what is shown of its outcome, before what is good.
pub record LiftsFrom (lent : Setting) (Stands : Progress → Type 0) (Good : Play → Type 0) : Type 0 where
  pub at_end : (ending : Ending) (clock : ℕ) → Good (over ending clock)
  pub at_start : (kind : Destination) (number : ℕ) (rest : Play) → Good rest
      → Good (emit (start_event kind number) rest)
  pub at_fault : (kind : Destination) (fault : TypeFault) (rest : Play) → Good rest
      → Good (emit (fault_event kind fault) rest)
  pub at_fetch : (kind : Destination) (request : Request) (next : Next) (progress : Progress)
      → IsMade lent.client request → Stands progress
      → ((later : Progress) → Stands later → Good (next later))
      → Good (embed (fetch (at_time lent progress.clock) request) (λ came. showing (outcome_event kind came) next)
      progress)

module _ (lent : Setting) (Stands Begun : Progress → Type 0) (Waits : ℕ → Type 0) (Good : Play → Type 0)
    (bounds : Bounds Stands Begun Waits) (lifts : LiftsFrom lent Stands Good) where
  abbrev GoodNext : Next → Type 0
  GoodNext next = (progress : Progress) → Stands progress → Good (next progress)

  -- the same of what follows the start of a command
  abbrev GoodCommand : Next → Type 0
  GoodCommand next = (progress : Progress) → Begun progress → Good (next progress)

  good-if : (b : Bool) (p q : Play) → Good p → Good q → Good (cond b p q)
  good-if true p q x y = x
  good-if false p q x y = y

  -- once an event was shown too
  good-after : (shown : Event) (next : Next) → GoodNext next → (progress : Progress) → Stands progress
      → Good (next (after_events (shown ∷ []) progress))
  good-after shown next good progress stands =
      good (after_events (shown ∷ []) progress) (bounds.showing (shown ∷ []) progress stands)

  good-fetched : (kind : Destination) (made : Result Request TypeFault) (next : Next)
      → ((request : Request) → made ≡ Ok request → IsMade lent.client request) → GoodNext next
      → GoodNext (fetched lent kind made next)
  good-fetched kind (Err fault) next is good progress stands =
      lifts.at_fault kind fault (next (after_events (fault_event kind fault ∷ []) progress))
      (good-after (fault_event kind fault) next good progress stands)
  good-fetched kind (Ok request) next is good progress stands =
      lifts.at_fetch kind request next progress (is request refl) stands good

  good-asked : (kind : Destination) (made : Result Request TypeFault) (next : Next)
      → ((request : Request) → made ≡ Ok request → IsMade lent.client request) → GoodNext next
      → GoodCommand (asked lent kind made next)
  good-asked kind made next is good progress begun =
      let first = start_event kind progress.fetches in
      lifts.at_start kind progress.fetches (fetched lent kind made next (after_events (first ∷ [])
      (fetch_started progress)))
      (good-after first (fetched lent kind made next) (good-fetched kind made next is good) (fetch_started progress)
      (bounds.asks progress begun))

  good-repeated : (times : ℕ) (part : Next → Next) → ((next : Next) → GoodNext next → GoodNext (part next))
      → (next : Next) → GoodNext next → GoodNext (repeated times part next)
  good-repeated zero part good next after = after
  good-repeated (suc n) part good next after =
      good (repeated n part next) (good-repeated n part good next after)

  good-chosen : (test : Test) (part another : Next → Next) (next : Next) → GoodNext (part next)
      → GoodNext (another next) → GoodNext (chosen test part another next)
  good-chosen test part another next x y progress stands =
      good-if (holds test (last_of progress)) (part next progress) (another next progress) (x progress stands)
      (y progress stands)

  -- a command, unless a limit is reached
  good-unless : (one : Step) (next : Next) → GoodCommand next → (progress : Progress) → Stands progress
      → (limit : Option Ending) → limit_before one progress ≡ limit
      → Good (unless_limit limit (λ begun. next (started begun)) progress)
  good-unless one next good progress stands (Some ending) is = lifts.at_end ending progress.clock
  good-unless one next good progress stands None is =
      good (started progress) (bounds.begins one progress is stands)

  mutual
    good-command : (one : Step) → WaitsOfStep Waits one → (next : Next) → GoodNext next
        → GoodCommand (command_run lent one next)
    good-command (script.fetch init) right next good = λ progress begun.
        let filled = filled_init (last_of progress) init in
        good-asked destination.Fetch (new_request lent.client filled) next
        (λ request is. IsMade.by_fetch filled is) good progress begun
    good-command (script.load init) right next good = λ progress begun.
        let filled = filled_load (last_of progress) init in
        good-asked init.kind (new_load lent.client filled) next (λ request is. IsMade.by_load filled is) good
        progress begun
    good-command (script.wait seconds) right next good = λ progress begun.
        good (waited seconds progress) (bounds.waits seconds progress right begun)
    good-command (script.repeat times part) right next good = λ progress begun.
        good-repeated times (script_run lent part) (λ rest after. good-script part right rest after) next good progress
        (bounds.rests progress begun)
    good-command (script.choose test part another) right next good = λ progress begun.
        good-chosen test (script_run lent part) (script_run lent another) next (good-script part right.0 next good)
        (good-script another right.1 next good) progress (bounds.rests progress begun)

    good-script : (steps : Steps) → AllWaits Waits steps → (next : Next) → GoodNext next
        → GoodNext (script_run lent steps next)
    good-script script.no_steps right next good = good
    good-script (script.step one more) right next good = λ progress stands.
        good-unless one (command_run lent one (script_run lent more next))
        (good-command one right.0 (script_run lent more next) (good-script more right.1 next good)) progress stands
        (limit_before one progress) refl

-- a document's run is good, from where it begins
pub good-from : (cookies : List Cookie) (base : ℕ) (document : Document) (Stands Begun : Progress → Type 0)
    (Waits : ℕ → Type 0) (Good : Play → Type 0) → Bounds Stands Begun Waits
    → LiftsFrom (setting_of cookies document) Stands Good → Stands (beginning base) → AllWaits Waits document.script
    → Good (document_run cookies base document)
good-from cookies base document Stands Begun Waits Good bounds lifts stands right =
    good-script (setting_of cookies document) Stands Begun Waits Good bounds lifts document.script right finished
    (λ later stood. lifts.at_end Finished later.clock) (beginning base) stands

-- ---- however far a run has come

abbrev pub Anywhere : Progress → Type 0
Anywhere progress = Unit {0}

abbrev AnyWait : ℕ → Type 0
AnyWait seconds = Unit {0}

mutual
  any-wait : (one : Step) → WaitsOfStep AnyWait one
  any-wait (script.fetch init) = tt
  any-wait (script.load init) = tt
  any-wait (script.wait seconds) = tt
  any-wait (script.repeat times part) = any-waits part
  any-wait (script.choose test part another) = (any-waits part, any-waits another)

  any-waits : (steps : Steps) → AllWaits AnyWait steps
  any-waits script.no_steps = tt
  any-waits (script.step one more) = (any-wait one, any-waits more)

-- a document's run is good, where what is good rests on nothing of how far it has come
pub good-document : (cookies : List Cookie) (base : ℕ) (document : Document) (Good : Play → Type 0)
    → LiftsFrom (setting_of cookies document) Anywhere Good → Good (document_run cookies base document)
good-document cookies base document Good lifts =
    good-from cookies base document Anywhere Anywhere AnyWait Good (record {
      showing = λ events progress stands. tt;
      asks = λ progress begun. tt;
      rests = λ progress begun. tt;
      waits = λ seconds progress right begun. tt;
      begins = λ one progress is stands. tt;
    }) lifts tt (any-waits document.script)
