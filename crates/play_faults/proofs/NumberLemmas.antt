-- How many faults a run has, by the outcomes that it shows.
use Rattle.std.proofs.Common.{◌≡◌, ℕ, ◌+◌, ◌≤◌, Bool, true, false, Option, Some, None, refl, ap, arith}
use Rattle.std.proofs.Common.{List, [], ◌∷◌, ◌++◌, IsTrue}
use Rattle.std.specs.Option.{option_or}
use Rattle.std.proofs.lemmas.List.Sums.{sum_by-cons}
use Rattle.value_requests.specs.declared.request.Request.{Request}
use Rattle.value_requests.specs.declared.response.BodyEnd.TheVariants as body
use Rattle.value_requests.specs.declared.response.Outcome.{Outcome}
use Rattle.value_requests.specs.declared.response.Outcome.TheVariants as outcome
use Rattle.fetch_acts.specs.declared.act.Act.{Act}
use Rattle.fetch_acts.specs.declared.act.Act.TheVariants.{Ask, Send, ReadHead, ReadBody, Tell}
use Rattle.fetch_acts.specs.declared.act.Input.{Input}
use Rattle.fetch_acts.specs.declared.act.Input.TheVariants.{BodyIs, Fault}
use Rattle.fetch_acts.specs.Process.{fits}
use Rattle.fetch_wire.specs.Exchanges.{is_fault}
use Rattle.script_events.specs.declared.events.Event.{Event}
use Rattle.script_runs.specs.Play.{Play, PlayRun, emit, events_of, over, run_play, step}
use Rattle.script_runs.specs.Runs.{document_run}
use Rattle.play_faults.specs.Failures.{Failure, IsBrokenAt, IsOnlyOne, ShowsFailure, broken, failure_in, is_broken}
use Rattle.play_faults.specs.Failures.{may_hide_fault, owed_after, tells_fault, unanswered}
use Rattle.play_faults.specs.Laws.{FaultsShown}
use Rattle.play_faults.specs.Numbers.{faults_of, one_if, one_where, outcomes_that, unshown}
use Rattle.play_faults.specs.Places.{IsShown, ShowsFailures, left_after, outcome_of}
use Rattle.play_faults.proofs.RunLemmas.{faults-placed}

-- ---- one

one-at-most : (b : Bool) → one_where b ≤ 1
one-at-most true = omega arith
one-at-most false = omega arith

-- how many failures have come that no outcome shows yet
abbrev owed : Option Failure → ℕ
owed None = 0
owed (Some failure) = 1

owed-at-most : (failure : Option Failure) → owed failure ≤ 1
owed-at-most None = omega arith
owed-at-most (Some failure) = omega arith

owed-some : (came : Option Failure) (before : Failure) → owed (option_or came (Some before)) ≡ 1
owed-some None before = refl
owed-some (Some failure) before = refl

owed-none : (request : Request) (input : Input)
    → owed (option_or (failure_in request input) None) ≡ one_where (is_fault input)
owed-none request Fault = refl
owed-none request (BodyIs (body.Fault n)) = refl
owed-none request (BodyIs end) = refl
owed-none request input = refl

owed-input : (request : Request) (input : Input) (failure : Option Failure) → IsOnlyOne failure input
    → owed (owed_after request input failure) ≡ one_where (is_fault input) + owed failure
owed-input request input None only = omega (arith, owed-none request input)
owed-input request input (Some before) only =
    omega (arith, owed-some (failure_in request input) before, ap one_where only)

-- ---- outcomes

at-tells : (came : Outcome) (n : ℕ) → IsBrokenAt n came → tells_fault came ≡ true
at-tells (outcome.Answer response) n is = ap is_broken is
at-tells outcome.Loaded n is = absurd is
at-tells (outcome.Error reason) n is = absurd is

-- what shows a failure tells it or may hide it
shows-one : (failure : Failure) (came : Outcome) → ShowsFailure (Some failure) came
    → 1 ≤ one_where (tells_fault came) + one_where (may_hide_fault came)
shows-one unanswered came is = rw is (omega arith)
shows-one (broken [] n) came is = rw (at-tells came n is) (omega arith)
shows-one (broken (byte ∷ text) n) came is = rw is (omega arith)

-- ---- events

emit-tells : (failure : Option Failure) (came : Option Outcome) (told faults : ℕ) → IsShown failure came
    → told ≤ faults + owed (left_after came failure) → one_if tells_fault came + told ≤ faults + owed failure
emit-tells failure None told faults is le = omega (arith, le)
emit-tells None (Some came) told faults is le = rw is (omega (arith, le))
emit-tells (Some failure) (Some came) told faults is le = omega (arith, le, one-at-most (tells_fault came))

emit-shows : (failure : Option Failure) (came : Option Outcome) (told hidden later faults : ℕ) → IsShown failure came
    → faults + owed (left_after came failure) ≤ told + hidden + later
    → faults + owed failure ≤ (one_if tells_fault came + told) + (one_if may_hide_fault came + hidden) + later
emit-shows failure None told hidden later faults is le = omega (arith, le)
emit-shows None (Some came) told hidden later faults is le = omega (arith, le)
emit-shows (Some failure) (Some came) told hidden later faults is le = omega (arith, le, shows-one failure came is)

-- the events of an act show no outcome
act-silent : (is : Outcome → Bool) (first : Act) (input : Input) (events : List Event)
    → outcomes_that is (events_of first input ++ events) ≡ outcomes_that is events
act-silent is (Ask op) input events = refl
act-silent is (Send hop) input events = refl
act-silent is ReadHead input events = refl
act-silent is ReadBody input events = refl
act-silent is (Tell violation) input events = refl

-- an event more
event-more : (is : Outcome → Bool) (shown : Event) (events : List Event)
    → outcomes_that is (shown ∷ events) ≡ one_if is (outcome_of shown) + outcomes_that is events
event-more is shown events = sum_by-cons (λ (s : Event). one_if is (outcome_of s)) shown events

-- ---- runs

step-tells : (failure : Option Failure) (request : Request) (first : Act) (after : Input → Play) (input : Input)
    (tape : List Input) (b : Bool) → fits first input ≡ b
    → (IsTrue (fits first input) → IsOnlyOne failure input)
    → (IsTrue (fits first input) → outcomes_that tells_fault (run_play (after input) tape).events
    ≤ faults_of (after input) tape + owed (owed_after request input failure))
    → outcomes_that tells_fault (run_play (step request first after) (input ∷ tape)).events
    ≤ faults_of (step request first after) (input ∷ tape) + owed failure
step-tells failure request first after input tape true fit only le =
    let told = act-silent tells_fault first input (run_play (after input) tape).events in
    rw fit (omega (arith, le fit, told, owed-input request input failure (only fit)))
step-tells failure request first after input tape false fit only le = rw fit (omega arith)

tells : (failure : Option Failure) (play : Play) → ShowsFailures failure play → (tape : List Input)
    → outcomes_that tells_fault (run_play play tape).events ≤ faults_of play tape + owed failure
tells failure (over ending clock) shows tape = omega arith
tells failure (emit shown rest) shows tape =
    let events = (run_play rest tape).events in
    rw (event-more tells_fault shown events)
    (emit-tells failure (outcome_of shown) (outcomes_that tells_fault events) (faults_of rest tape)
    shows.0 (tells (left_after (outcome_of shown) failure) rest shows.1 tape))
tells failure (step request first after) shows [] = omega arith
tells failure (step request first after) shows (input ∷ tape) =
    step-tells failure request first after input tape (fits first input) refl (λ fit. (shows input fit).0)
    (λ fit. tells (owed_after request input failure) (after input) (shows input fit).1 tape)

-- how many faults a run shows at most
abbrev shown_in : PlayRun → ℕ
shown_in ran = outcomes_that tells_fault ran.events + outcomes_that may_hide_fault ran.events + unshown ran.ending

step-shows : (failure : Option Failure) (request : Request) (first : Act) (after : Input → Play) (input : Input)
    (tape : List Input) (b : Bool) → fits first input ≡ b
    → (IsTrue (fits first input) → IsOnlyOne failure input)
    → (IsTrue (fits first input) → faults_of (after input) tape + owed (owed_after request input failure)
    ≤ shown_in (run_play (after input) tape))
    → faults_of (step request first after) (input ∷ tape) + owed failure
    ≤ shown_in (run_play (step request first after) (input ∷ tape))
step-shows failure request first after input tape true fit only le =
    let ran = run_play (after input) tape in
    let told = act-silent tells_fault first input ran.events in
    let hidden = act-silent may_hide_fault first input ran.events in
    rw fit (omega (arith, le fit, told, hidden, owed-input request input failure (only fit)))
step-shows failure request first after input tape false fit only le = rw fit (omega (arith, owed-at-most failure))

shows : (failure : Option Failure) (play : Play) → ShowsFailures failure play → (tape : List Input)
    → faults_of play tape + owed failure ≤ shown_in (run_play play tape)
shows failure (over ending clock) is tape = omega (arith, ap owed is)
shows failure (emit shown rest) is tape =
    let ran = run_play rest tape in
    rw (event-more tells_fault shown ran.events, event-more may_hide_fault shown ran.events)
    (emit-shows failure (outcome_of shown) (outcomes_that tells_fault ran.events)
    (outcomes_that may_hide_fault ran.events) (unshown ran.ending) (faults_of rest tape) is.0
    (shows (left_after (outcome_of shown) failure) rest is.1 tape))
shows failure (step request first after) is [] = omega (arith, owed-at-most failure)
shows failure (step request first after) is (input ∷ tape) =
    step-shows failure request first after input tape (fits first input) refl (λ fit. (is input fit).0)
    (λ fit. shows (owed_after request input failure) (after input) (is input fit).1 tape)

-- every document's run, over every tape
pub faults-shown : FaultsShown
faults-shown cookies base document tape =
    let whole = document_run cookies base document in
    let placed = faults-placed cookies base document in
    record {
      none_more = omega (arith, tells None whole placed tape);
      none_fewer = omega (arith, shows None whole placed tape);
    }
