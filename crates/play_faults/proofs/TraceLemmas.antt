-- The count of a link rises with each fault of a run.
use Rattle.std.proofs.Common.{◌≡◌, ℕ, ◌+◌, ◌-◌, ◌^◌, ◌≤◌, Bool, true, false, refl, ap, sym, subst, ◌∙◌, arith}
use Rattle.std.proofs.Common.{List, [], ◌++◌}
use Rattle.std.specs.Prelude.{min, if◌then◌else◌}
use Rattle.std.proofs.lemmas.List.Sums.{sum_by-append}
use Rattle.fetch_acts.specs.declared.act.Act.{Act}
use Rattle.fetch_acts.specs.declared.act.Act.TheVariants.{Ask, Send, ReadHead, ReadBody, Tell}
use Rattle.fetch_acts.specs.declared.act.Input.{Input}
use Rattle.link_traits.specs.Counts.{counted_on, grown_by, one_more}
use Rattle.fetch_wire.specs.Exchanges.{Answering, Exchange, IsCaused, is_fault}
use Rattle.fetch_wire.proofs.WireLemmas.{uncaused}
use Rattle.value_requests.specs.declared.client.Cookie.{Cookie}
use Rattle.script_events.specs.declared.events.Ending.{Ending}
use Rattle.script_events.specs.declared.events.Ending.TheVariants as ending
use Rattle.script_events.specs.declared.events.Event.{Event}
use Rattle.script_events.specs.declared.events.Event.TheVariants as event
use Rattle.script_scenarios.specs.declared.document.Document.{Document}
use Rattle.script_runs.specs.Play.{Play, PlayRun, emit, over, run_play, step}
use Rattle.script_runs.specs.Runs.{document_run}
use Rattle.script_runs.specs.Traces.{PlayTrace, shown, stepped, stop}
use Rattle.play_definitions.specs.Worlds.{Outside, Settles, World, WorldAnswers}
use Rattle.play_definitions.specs.Playing.{RunCameTo, RunCut, RunPlayed}
use Rattle.play_faults.specs.Failures.{tells_fault}
use Rattle.play_faults.specs.Laws.{AreShown, FaultsCounted, FaultsCountedCut, RanShown, ToldCounted}
use Rattle.play_faults.specs.Numbers.{faults_of, one_if, one_where, outcomes_that}
use Rattle.play_faults.specs.Places.{outcome_of}
use Rattle.play_faults.proofs.NumberLemmas.{faults-shown}

-- ---- counts

-- one more below a bound, and then some more as far as there is room
rises : (most a mid more b : ℕ) → a ≤ mid → mid ≡ min (a + 1) most → b ≡ mid + min more (most - mid)
    → b ≡ a + min (1 + more) (most - a)
rises most a mid more b later rose is = omega (arith, later, rose, is)

fewer-told : (most a fewer more b : ℕ) → fewer ≤ more → b ≡ a + min more (most - a) → min (a + fewer) most ≤ b
fewer-told most a fewer more b few is = omega (arith, few, is)

none-more : (most a : ℕ) → a ≡ a + min 0 (most - a)
none-more most a = omega arith

same-more : (most a mid more b : ℕ) → mid ≡ a → b ≡ mid + min more (most - mid) → b ≡ a + min (0 + more) (most - a)
same-more most a mid more b same is = omega (arith, same, is)

-- an input that is a fault raises the count, and no other does
count-input : (input : Input) (a mid more b : ℕ) (is : Bool) → is_fault input ≡ is → IsCaused input a mid
    → b ≡ counted_on mid more → b ≡ counted_on a (one_where is + more)
count-input input a mid more b true is caused on =
    rises (2 ^ 64 - 1) a mid more b caused.later
    (caused.counted ∙ ap (λ (f : Bool). if f then one_more a else a) is) on
count-input input a mid more b false is caused on =
    same-more (2 ^ 64 - 1) a mid more b (caused.counted ∙ ap (λ (f : Bool). if f then one_more a else a) is) on

-- ---- traces

no-faults : (play : Play) → faults_of play [] ≡ 0
no-faults (over ending clock) = refl
no-faults (emit one rest) = no-faults rest
no-faults (step request first after) = refl

module _ {State : Type 0} (by : Answering State) (limit document : ℕ) where
  act-caused : (a b : World State) (first : Act) (input : Input) → WorldAnswers by limit document a first input b
      → IsCaused input a.exchange.faults b.exchange.faults
  act-caused a b (Ask op) input is =
      uncaused input a.exchange.faults b.exchange.faults (ap (λ (e : Exchange State). e.faults) is.exchange_is)
      (rw is.asked.input_is refl)
  act-caused a b (Send hop) input is = is.1.exchanged.caused
  act-caused a b ReadHead input is = is.exchanged.caused
  act-caused a b ReadBody input is = is.exchanged.caused
  act-caused a b (Tell violation) input is =
      uncaused input a.exchange.faults b.exchange.faults (ap (λ (w : World State). w.exchange.faults) is.1)
      (rw is.0 refl)

  event-faults : (a b : World State) (one : Event) → Settles one a b → b.exchange.faults ≡ a.exchange.faults
  event-faults a b (event.Result came) is = ap (λ (o : Outside State). o.faults) is.outside_is
  event-faults a b (event.LoadFailed error) is = ap (λ (o : Outside State). o.faults) is.outside_is
  event-faults a b one is = ap (λ (w : World State). w.exchange.faults) is

  counts : {p q : Play} {a b : World State} {t : List Input} {e : List Event}
      → PlayTrace (WorldAnswers by limit document) Settles p a t e q b
      → b.exchange.faults ≡ counted_on a.exchange.faults (faults_of p t)
  counts {p = p} {a = a} stop = rw (no-faults p) (none-more (2 ^ 64 - 1) a.exchange.faults)
  counts {a = a} {b = b} (shown {q = rest} {mid = mid} {tape = tape} one is x) =
      rw (sym (event-faults a mid one is)) (counts x)
  counts {a = a} {b = b} (stepped {mid = mid} {tape = tape} request first after input is fit x) =
      rw fit
      (count-input input a.exchange.faults mid.exchange.faults (faults_of (after input) tape) b.exchange.faults
      (is_fault input) refl (act-caused a mid first input is) (counts x))

pub faults-counted : (State : Type 0) → FaultsCounted State
faults-counted State by limit document whole old events ending clock new ran =
    rw (sym (ap (λ (o : Outside State). o.faults) ran.from), sym (ap (λ (o : Outside State). o.faults) ran.to))
    (counts by limit document ran.trace)

pub faults-counted_cut : (State : Type 0) → FaultsCountedCut State
faults-counted_cut State by limit document whole old events new began =
    rw (sym (ap (λ (o : Outside State). o.faults) began.from))
    (began.left.faults_are ∙ counts by limit document began.trace)

-- ---- what a document is told

pub ran-shown : (State : Type 0) → RanShown State
ran-shown State by limit number cookies base document old events ending clock new ran =
    subst (AreShown (faults_of (document_run cookies base document) ran.tape)) ran.runs
    (faults-shown cookies base document ran.tape)

module _ {State : Type 0} (by : Answering State) (limit number : ℕ) (cookies : List Cookie) (base : ℕ)
    (document : Document) (old : Outside State) (events : List Event) (new : Outside State) where
  abbrev whole : Play
  whole = document_run cookies base document

  told-ran : (ending : Ending) (clock : ℕ) → RunPlayed by limit number whole old events ending clock new
      → grown_by old.faults (outcomes_that tells_fault events) ≤ new.faults
  told-ran ending clock ran =
      let shown = (faults-shown cookies base document ran.tape).none_more in
      let events_are : (run_play whole ran.tape).events ≡ events = ap (λ (r : PlayRun). r.events) ran.runs in
      fewer-told (2 ^ 64 - 1) old.faults (outcomes_that tells_fault events) (faults_of whole ran.tape) new.faults
      (omega (arith, shown, ap (outcomes_that tells_fault) events_are))
      (faults-counted State by limit number whole old events ending clock new ran)

  told-began : RunCut by limit number whole old events new
      → grown_by old.faults (outcomes_that tells_fault events) ≤ new.faults
  told-began began =
      let shown = (faults-shown cookies base document began.tape).none_more in
      let rest = began.missed ++ (run_play began.place []).events in
      fewer-told (2 ^ 64 - 1) old.faults (outcomes_that tells_fault events) (faults_of whole began.tape) new.faults
      (omega (
        arith,
        shown,
        ap (outcomes_that tells_fault) began.runs,
        sum_by-append (λ (s : Event). one_if tells_fault (outcome_of s)) events rest,
      ))
      (faults-counted_cut State by limit number whole old events new began)

  told-counted : (ending : Ending) (clock : ℕ) → RunCameTo by limit number whole old events ending clock new
      → grown_by old.faults (outcomes_that tells_fault events) ≤ new.faults
  told-counted ending.Memory clock came = told-began came
  told-counted ending clock came = told-ran ending clock came

pub told : (State : Type 0) → ToldCounted State
told State by limit number cookies base document old events ending clock new came =
    told-counted by limit number cookies base document old events new ending clock came
