-- A document's run goes on from what it may learn of an input as from the input, and shows no call but where it makes
-- one.
use Rattle.std.proofs.Common.{◌≡◌, ℕ, Bool, true, false, List, [], ◌∷◌, Option, Some, None, Result, Ok, Err, IsTrue}
use Rattle.std.proofs.Common.{refl, subst}
use Rattle.std.specs.Prelude.{◌||◌, IfOk}
use Rattle.url.specs.Parts.{Parts}
use Rattle.value_requests.specs.declared.client.Client.{Client}
use Rattle.value_requests.specs.declared.client.Cookie.{Cookie}
use Rattle.value_requests.specs.declared.fault.TypeFault.{TypeFault}
use Rattle.value_requests.specs.declared.hop.Hop.{Hop}
use Rattle.value_requests.specs.declared.init.Init.{Init}
use Rattle.value_requests.specs.declared.init.LoadInit.{LoadInit}
use Rattle.value_requests.specs.declared.policy.Destination.{Destination}
use Rattle.value_requests.specs.declared.policy.Destination.TheVariants as destination
use Rattle.value_requests.specs.declared.request.Request.{Request}
use Rattle.value_requests.specs.declared.response.Outcome.{Outcome}
use Rattle.value_requests.specs.declared.response.Outcome.TheVariants as outcome
use Rattle.value_requests.specs.Modes.{is_follow}
use Rattle.policy_filter.specs.Laws.{follows_or_fetches}
use Rattle.fetch_requests.specs.Loading.{load_for}
use Rattle.fetch_requests.specs.Making.{fault_or, faults, first_fault, made, request_for, url_given}
use Rattle.fetch_acts.specs.declared.act.Act.{Act}
use Rattle.fetch_acts.specs.declared.act.Act.TheVariants.{Ask, Send, ReadHead, ReadBody, Tell}
use Rattle.fetch_acts.specs.declared.act.Input.{Input}
use Rattle.fetch_acts.specs.Process.{Process, act, ended}
use Rattle.script_scenarios.specs.declared.document.Document.{Document}
use Rattle.fetch_definitions.specs.Fetch.{fetch}
use Rattle.fetch_laws.specs.Blind.{Blind, GoesBlind}
use Rattle.fetch_laws.specs.Seen.{seen, sent_by}
use Rattle.fetch_laws.proofs.BlindLemmas.{blind-fetch}
use Rattle.script_runs.specs.Play.{Play, emit, events_of, over, step}
use Rattle.script_runs.specs.Runs.{Next, Progress, after_events, at_time, document_run, embed, fault_event}
use Rattle.script_runs.specs.Runs.{load_event}
use Rattle.script_runs.specs.Runs.{outcome_event, setting_of, showing, start_event}
use Rattle.script_runs.proofs.ScriptLemmas.{IsMade, good-document}
use Rattle.play_isolation.specs.Calls.{call_in}

-- ---- what a script asks for

-- the redirect mode is follow or the destination that of a `fetch`
abbrev IsPlain : Request → Type 0
IsPlain request = IsTrue (follows_or_fetches request)

or-true : (b : Bool) → IsTrue (b || true)
or-true true = refl
or-true false = refl

plain-fault : (fault : Option TypeFault) (request : Request) → IsPlain request → IfOk (fault_or fault request) IsPlain
plain-fault None request plain = plain
plain-fault (Some fault) request plain = tt

plain-request : (client : Client) (init : Init) (url : Result Parts TypeFault)
    → IfOk (request_for client init url) IsPlain
plain-request client init (Err fault) = tt
plain-request client init (Ok url) =
    plain-fault (first_fault (faults init url)) (made client init url) (or-true (is_follow init.redirect))

plain-load : (client : Client) (init : LoadInit) (url : Result Parts TypeFault)
    → IfOk (load_for client init url) IsPlain
plain-load client init (Err fault) = tt
plain-load client init (Ok url) = refl

plain-made : (client : Client) (request : Request) → IsMade client request → IsPlain request
plain-made client request (IsMade.by_fetch init is) =
    subst (λ (result : Result Request TypeFault). IfOk result IsPlain) is
    (plain-request client init (url_given client init.url))
plain-made client request (IsMade.by_load init is) =
    subst (λ (result : Result Request TypeFault). IfOk result IsPlain) is
    (plain-load client init (url_given client init.url))

-- ---- what a script shows is no call

start-silent : (kind : Destination) (number : ℕ) → call_in (start_event kind number) ≡ []
start-silent destination.Fetch number = refl
start-silent kind number = refl

fault-silent : (kind : Destination) (fault : TypeFault) → call_in (fault_event kind fault) ≡ []
fault-silent destination.Fetch fault = refl
fault-silent kind fault = refl

load-silent : (came : Outcome) → call_in (load_event came) ≡ []
load-silent (outcome.Error error) = refl
load-silent came = refl

outcome-silent : (kind : Destination) (came : Outcome) → call_in (outcome_event kind came) ≡ []
outcome-silent destination.Fetch came = refl
outcome-silent kind came = load-silent came

-- ---- a run

-- after each of its acts it goes on from what is seen of each input that fits as from the input
abbrev pub BlindPlay : Option Hop → Play → Type 0
BlindPlay sent (over ending clock) = Unit {0}
BlindPlay sent (emit event rest) = BlindPlay sent rest
BlindPlay sent (step request first after) =
    GoesBlind sent request first after × ((input : Input) → BlindPlay (sent_by first sent) (after input))

-- no event that it shows itself is a call
abbrev pub ShowsNoCall : Play → Type 0
ShowsNoCall (over ending clock) = Unit {0}
ShowsNoCall (emit event rest) = (call_in event ≡ []) × ShowsNoCall rest
ShowsNoCall (step request first after) = (input : Input) → ShowsNoCall (after input)

-- what is seen of an input shows the same
pub events-seen : (first : Act) (request : Request) (sent : Option Hop) (input : Input)
    → events_of first (seen first request sent input) ≡ events_of first input
events-seen (Ask op) request sent input = refl
events-seen (Send hop) request sent input = refl
events-seen ReadHead request sent input = refl
events-seen ReadBody request sent input = refl
events-seen (Tell violation) request sent input = refl

blind-embed : (sent : Option Hop) (process : Process) (next : Outcome → Next) (progress : Progress)
    → Blind sent process
    → ((last : Option Hop) (came : Outcome) (later : Progress) → BlindPlay last (next came later))
    → BlindPlay sent (embed process next progress)
blind-embed sent (ended outcome) next progress blind all = all sent outcome progress
blind-embed sent (act request first after) next progress blind all = (
  λ input fit. rw (blind.0 input fit, events-seen first request sent input) refl,
  λ input. blind-embed (sent_by first sent) (after input) next (after_events (events_of first input) progress)
      (blind.1 input) all,
)

silent-embed : (process : Process) (next : Outcome → Next) (progress : Progress)
    → ((came : Outcome) (later : Progress) → ShowsNoCall (next came later)) → ShowsNoCall (embed process next progress)
silent-embed (ended outcome) next progress all = all outcome progress
silent-embed (act request first after) next progress all =
    λ input. silent-embed (after input) next (after_events (events_of first input) progress) all

-- every document's run
pub blind-document : (cookies : List Cookie) (base : ℕ) (document : Document)
    → BlindPlay None (document_run cookies base document)
blind-document cookies base document =
    let lent = setting_of cookies document in
    good-document cookies base document (λ (play : Play). (sent : Option Hop) → BlindPlay sent play) (record {
      at_end = λ ending clock sent. tt;
      at_start = λ kind number rest good. good;
      at_fault = λ kind fault rest good. good;
      at_fetch = λ kind request next progress made stands good sent.
          let context = at_time lent progress.clock in
          blind-embed sent (fetch context request) (λ came. showing (outcome_event kind came) next) progress
          (blind-fetch context request sent (plain-made lent.client request made))
          (λ last came later. good (after_events (outcome_event kind came ∷ []) later) tt last);
    }) None

pub silent-document : (cookies : List Cookie) (base : ℕ) (document : Document)
    → ShowsNoCall (document_run cookies base document)
silent-document cookies base document = good-document cookies base document ShowsNoCall (record {
  at_end = λ ending clock. tt;
  at_start = λ kind number rest good. (start-silent kind number, good);
  at_fault = λ kind fault rest good. (fault-silent kind fault, good);
  at_fetch = λ kind request next progress made stands good.
      silent-embed (fetch (at_time (setting_of cookies document) progress.clock) request)
      (λ came. showing (outcome_event kind came) next) progress
      (λ came later. (outcome-silent kind came, good (after_events (outcome_event kind came ∷ []) later) tt));
})
