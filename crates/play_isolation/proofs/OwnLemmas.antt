-- Each call of a document's run is one that a document of its key makes.
use Rattle.std.proofs.Common.{◌≡◌, ℕ, arith, Bool, true, false, cond, List, [], ◌∷◌, Option, Some, None, refl}
use Rattle.std.proofs.Common.{subst, sym}
use Rattle.std.specs.Prelude.{◌+◌, ◌*◌, ◌^◌, ◌<◌, ◌≤◌, IfSome, option_and_then, option_map}
use Rattle.std.specs.List.{AllByRecursion}
use Rattle.value_lemmas.proofs.Bytes.{bytes_eq-self}
use Rattle.book_hosts.specs.declared.sts.Sts.{Sts}
use Rattle.value_requests.specs.declared.client.Cookie.{Cookie}
use Rattle.value_requests.specs.declared.request.Request.{Request}
use Rattle.value_requests.specs.declared.response.Outcome.{Outcome}
use Rattle.book_calls.specs.declared.op.Op.{Op}
use Rattle.book_calls.specs.declared.op.Op.TheVariants.{Match, Note}
use Rattle.book_calls.specs.Ops.{InRange}
use Rattle.book_calls.specs.Past.{is_of_key}
use Rattle.fetch_acts.specs.declared.act.Act.{Act}
use Rattle.fetch_acts.specs.declared.act.Act.TheVariants.{Ask, Send, ReadHead, ReadBody, Tell}
use Rattle.fetch_acts.specs.declared.act.Input.{Input}
use Rattle.fetch_acts.specs.declared.act.Input.TheVariants.{Replied}
use Rattle.fetch_acts.specs.Process.{Process, act, ended, fits}
use Rattle.fetch_acts.specs.Within.{Anything, Within, asks, price_of}
use Rattle.fetch_rules.specs.KnownHosts.{host_to_match, host_to_note, sts_of}
use Rattle.script_scenarios.specs.Scripts.{Step, Steps}
use Rattle.script_scenarios.specs.Scripts as script
use Rattle.script_scenarios.specs.ValidScripts.{AreValid, IsValidStep}
use Rattle.script_scenarios.specs.declared.document.Document.{Document}
use Rattle.script_events.specs.declared.events.Event.{Event}
use Rattle.fetch_definitions.specs.Fetch.{fetch}
use Rattle.fetch_definitions.specs.Then.{Context}
use Rattle.fetch_laws.specs.Apart.{Made, Plan, calls_on, does, stops, with_call}
use Rattle.fetch_laws.specs.Prices.{fetch_price}
use Rattle.fetch_laws.specs.Own.{IsOwnAct}
use Rattle.fetch_laws.proofs.OwnLemmas.{fetch-within}
use Rattle.fetch_laws.proofs.RuleLemmas.{Keeps, within-fetch}
use Rattle.script_runs.specs.Play.{Play, events_of, run_play}
use Rattle.script_runs.specs.Runs.{Next, Progress, after_events, at_time, document_client, document_run, embed}
use Rattle.script_runs.specs.Runs.{outcome_event, setting_of, showing}
use Rattle.script_runs.proofs.ScriptLemmas.{AllWaits, Anywhere, Bounds, WaitsOfStep, good-document, good-from}
use Rattle.script_runs.proofs.ScriptLemmas.{limit_before-none}
use Rattle.play_isolation.specs.Apart.{plan_of}
use Rattle.play_isolation.specs.Calls.{calls_in}
use Rattle.play_isolation.proofs.AloneLemmas.{calls-shown}
use Rattle.play_isolation.proofs.BlindLemmas.{ShowsNoCall, silent-document}

-- the op of the act, where it is a call, is as P says
abbrev pub AsksBy : (Op → Type 0) → Request → Act → Type 0
AsksBy P request (Ask op) = P op
AsksBy P request _ = Unit {0}

-- so is each act of a plan
abbrev pub AreAsked : (Op → Type 0) → Plan → Type 0
AreAsked P stops = Unit {0}
AreAsked P (does request first after) = AsksBy P request first × ((input : Input) → AreAsked P (after input))

-- the op is one that a document of this key makes
abbrev pub IsOfKey : List ℕ → Op → Type 0
IsOfKey key op = is_of_key key op ≡ true

-- ---- a fetch

key-match : (key : List ℕ) (now : ℕ) (host : Option (List ℕ))
    → IfSome (option_map (λ name. Match name now) host) (λ op. is_of_key key op ≡ true)
key-match key now None = tt
key-match key now (Some name) = refl

key-note : (key : List ℕ) (now : ℕ) (host : Option (List ℕ)) (said : Option Sts)
    → IfSome (option_and_then (λ name. option_map (λ sts. Note name sts now) said) host)
    (λ op. is_of_key key op ≡ true)
key-note key now None said = tt
key-note key now (Some name) None = tt
key-note key now (Some name) (Some sts) = refl

key-kept : (context : Context) → Keeps context (AsksBy (IsOfKey context.client.key))
key-kept context = record {
  known = λ request. key-match context.client.key context.now (host_to_match request);
  covers = λ request. bytes_eq-self context.client.key;
  note = λ request head. key-note context.client.key context.now (host_to_note request) (sts_of head);
  learn = λ request age methods names small. bytes_eq-self context.client.key;
  clear = λ request. bytes_eq-self context.client.key;
  send = λ request hop. tt;
  head = λ request. tt;
  body = λ request. tt;
  tell = λ request violation. tt;
}

-- ---- a run

-- each act of a fetch is as Q says, so its ops are as P says
asks-by : (P : Op → Type 0) (Q : Request → Act → Type 0) (request : Request) (first : Act)
    → ((op : Op) → Q request (Ask op) → P op) → Q request first → AsksBy P request first
asks-by P Q request (Ask op) says is = says op is
asks-by P Q request (Send hop) says is = tt
asks-by P Q request ReadHead says is = tt
asks-by P Q request ReadBody says is = tt
asks-by P Q request (Tell violation) says is = tt

asked-embed : (P : Op → Type 0) (Q : Request → Act → Type 0)
    → ((request : Request) (op : Op) → Q request (Ask op) → P op)
    → (most : ℕ) (process : Process) (next : Outcome → Next) (progress : Progress) (Stands : Progress → Type 0)
    → ((events : List Event) (later : Progress) → Stands later → Stands (after_events events later))
    → Stands progress → Within (price_of asks) Anything Q most process
    → ((came : Outcome) (later : Progress) → Stands later → AreAsked P (plan_of (next came later)))
    → AreAsked P (plan_of (embed process next progress))
asked-embed P Q says most (ended outcome) next progress Stands stays stands within good =
    good outcome progress stands
asked-embed P Q says most (act request first after) next progress Stands stays stands within good = (
  asks-by P Q request first (says request) within.0,
  λ input. asked-embed P Q says within.1.left (after input) next (after_events (events_of first input) progress)
      Stands stays (stays (events_of first input) progress stands) (within.1.rest input tt) good,
)

key-document : (cookies : List Cookie) (base : ℕ) (document : Document)
    → AreAsked (IsOfKey (document_client document).key) (plan_of (document_run cookies base document))
key-document cookies base document =
    let P = IsOfKey (document_client document).key in
    good-document cookies base document (λ (play : Play). AreAsked P (plan_of play)) (record {
      at_end = λ ending clock. tt;
      at_start = λ kind number rest good. good;
      at_fault = λ kind fault rest good. good;
      at_fetch = λ kind request next progress made stands good.
          let context = at_time (setting_of cookies document) progress.clock in
          asked-embed P (AsksBy P) (λ about op is. is) (fetch_price asks context request) (fetch context request)
          (λ came. showing (outcome_event kind came) next) progress Anywhere (λ events later stood. tt) tt
          (within-fetch asks context (AsksBy P) (key-kept context) request)
          (λ came later stood. good (after_events (outcome_event kind came ∷ []) later) tt);
    })

-- ---- its calls

module _ (P : Op → Type 0) where
  -- the op of a call is so
  abbrev Says : Made → Type 0
  Says call = P call.op

  call-says : (request : Request) (first : Act) (input : Input) (calls : List Made) → AsksBy P request first
      → AllByRecursion Says calls → AllByRecursion Says (with_call first input calls)
  call-says request (Ask op) (Replied reply) calls is all = (is, all)
  call-says request (Ask op) input calls is all = all
  call-says request first input calls is all = all

  -- as far as inputs fit
  calls-by : (request : Request) (first : Act) (input : Input) (calls : List Made) (fit : Bool)
      → AsksBy P request first → AllByRecursion Says calls
      → AllByRecursion Says (cond fit (with_call first input calls) [])
  calls-by request first input calls true is all = call-says request first input calls is all
  calls-by request first input calls false is all = tt

  asked-calls : (plan : Plan) (tape : List Input) → AreAsked P plan → AllByRecursion Says (calls_on plan tape)
  asked-calls stops tape are = tt
  asked-calls (does request first after) [] are = tt
  asked-calls (does request first after) (input ∷ tape) are =
      calls-by request first input (calls_on (after input) tape) (fits first input) are.0
      (asked-calls (after input) tape (are.1 input))

  -- so is each call that a run shows
  shown-calls : (play : Play) (tape : List Input) → ShowsNoCall play → AreAsked P (plan_of play)
      → AllByRecursion Says (calls_in (run_play play tape).events)
  shown-calls play tape silent are =
      subst (AllByRecursion Says) (sym (calls-shown play tape silent)) (asked-calls (plan_of play) tape are)

-- each call of a document's run is of its key
pub document-calls : (cookies : List Cookie) (base : ℕ) (document : Document) (tape : List Input)
    → AllByRecursion (λ (call : Made). is_of_key (document_client document).key call.op ≡ true)
    (calls_in (run_play (document_run cookies base document) tape).events)
document-calls cookies base document tape =
    shown-calls (IsOfKey (document_client document).key) (document_run cookies base document) tape
    (silent-document cookies base document) (key-document cookies base document)

-- ---- in range

-- no more seconds have passed than the commands that have started may wait
record InTime (base : ℕ) (progress : Progress) : Type 0 where
  pub few : progress.commands ≤ 16384
  pub early : progress.clock ≤ base + progress.commands * 4294967296

-- the command that has started has not waited yet
record InTimeToWait (base : ℕ) (progress : Progress) : Type 0 where
  pub few : progress.commands ≤ 16384
  pub early : progress.clock + 4294967296 ≤ base + progress.commands * 4294967296

-- a wait is short
abbrev IsShort : ℕ → Type 0
IsShort seconds = seconds < 2 ^ 32

time-bounds : (base : ℕ) → Bounds (InTime base) (InTimeToWait base) IsShort
time-bounds base = record {
  showing = λ events progress stands. record { few = stands.few; early = stands.early };
  asks = λ progress begun. record { few = begun.few; early = omega (arith, begun.early) };
  rests = λ progress begun. record { few = begun.few; early = omega (arith, begun.early) };
  waits = λ seconds progress short begun. record { few = begun.few; early = omega (arith, begun.early, short) };
  begins = λ one progress is stands.
      let few : progress.commands < 16384 = limit_before-none one progress is in
      record { few = omega (arith, few); early = omega (arith, stands.early) };
}

mutual
  short-wait : (one : Step) → IsValidStep one → WaitsOfStep IsShort one
  short-wait (script.fetch init) valid = tt
  short-wait (script.load init) valid = tt
  short-wait (script.wait seconds) valid = valid
  short-wait (script.repeat times part) valid = short-waits part valid.1
  short-wait (script.choose test part another) valid = (short-waits part valid.1.0, short-waits another valid.1.1)

  short-waits : (steps : Steps) → AreValid steps → AllWaits IsShort steps
  short-waits script.no_steps valid = tt
  short-waits (script.step one more) valid = (short-wait one valid.0, short-waits more valid.1)

range-document : (cookies : List Cookie) (base : ℕ) (document : Document) → AreValid document.script
    → base ≤ 1099511627776 → AreAsked InRange (plan_of (document_run cookies base document))
range-document cookies base document valid soon =
    good-from cookies base document (InTime base) (InTimeToWait base) IsShort
    (λ (play : Play). AreAsked InRange (plan_of play)) (time-bounds base) (record {
      at_end = λ ending clock. tt;
      at_start = λ kind number rest good. good;
      at_fault = λ kind fault rest good. good;
      at_fetch = λ kind request next progress made stands good.
          let context = at_time (setting_of cookies document) progress.clock in
          asked-embed InRange (IsOwnAct context) (λ about op is. is.0) (fetch_price asks context request)
          (fetch context request) (λ came. showing (outcome_event kind came) next) progress (InTime base)
          (time-bounds base).showing stands
          (fetch-within asks context request (omega (arith, stands.few, stands.early, soon)))
          (λ came later stood. good (after_events (outcome_event kind came ∷ []) later)
          ((time-bounds base).showing (outcome_event kind came ∷ []) later stood));
    }) (record { few = omega arith; early = omega arith }) (short-waits document.script valid)

-- each call of a run of a valid script is in range
pub range-calls : (cookies : List Cookie) (base : ℕ) (document : Document) (tape : List Input)
    → AreValid document.script → base ≤ 1099511627776
    → AllByRecursion (λ (call : Made). InRange call.op)
    (calls_in (run_play (document_run cookies base document) tape).events)
range-calls cookies base document tape valid soon =
    shown-calls InRange (document_run cookies base document) tape (silent-document cookies base document)
    (range-document cookies base document valid soon)
