-- A fetch reads a head only of the answer to the request that it sent last, and a body only after its head: rule by
-- rule.
use Rattle.std.proofs.Common.{◌-◌, ℕ, zero, suc, Bool, true, false, cond, List, [], ◌∷◌, Option, Some, None}
use Rattle.std.proofs.Common.{Ok, Err}
use Rattle.value_requests.specs.declared.client.Cookie.{Cookie}
use Rattle.value_requests.specs.declared.error.NetError.{NetError}
use Rattle.value_requests.specs.declared.error.NetError.TheVariants.{CspRequest, LinkFault, Scheme, TooManyRedirects}
use Rattle.value_requests.specs.declared.hop.Head.{Head}
use Rattle.value_requests.specs.declared.hop.Hop.{Hop}
use Rattle.value_requests.specs.declared.mode.Tainting.TheVariants as tainting
use Rattle.value_requests.specs.declared.policy.Violation.{Violation}
use Rattle.value_requests.specs.declared.request.Request.{Request}
use Rattle.value_requests.specs.declared.response.Outcome.{Outcome}
use Rattle.value_requests.specs.Requests.{current_url, is_http_url}
use Rattle.policy_checks.specs.RequestOrigins.{serialized_request_origin}
use Rattle.book_calls.specs.declared.op.Op.{Op}
use Rattle.policy_csp.specs.Violations.{request_violations, response_violations}
use Rattle.policy_preflight.specs.declared.answer.Checked.{Checked}
use Rattle.policy_preflight.specs.declared.answer.Checked.TheVariants.{Pass, Refused}
use Rattle.policy_preflight.specs.Preflight.{preflight_of}
use Rattle.policy_preflight.specs.Verdict.{verdict}
use Rattle.fetch_acts.specs.declared.act.Act.{Act}
use Rattle.fetch_acts.specs.declared.act.Act.TheVariants.{Ask, Send, ReadHead, ReadBody, Tell}
use Rattle.fetch_acts.specs.declared.act.Input.{Input}
use Rattle.fetch_acts.specs.declared.act.Input.TheVariants.{HeadIs, Sent}
use Rattle.fetch_acts.specs.Process.{Process, act, ended}
use Rattle.fetch_requests.specs.Heads.{hop_of}
use Rattle.fetch_rules.specs.Blocking.{refusal_before}
use Rattle.fetch_rules.specs.KnownHosts.{match_of, note_of}
use Rattle.fetch_rules.specs.Referrers.{with_referrer}
use Rattle.fetch_rules.specs.Switch.{switch_of, with_tainting}
use Rattle.fetch_rules.specs.Upgrading.{secured_where, upgraded}
use Rattle.fetch_rules.specs.declared.switch.Switch.{Switch}
use Rattle.fetch_rules.specs.declared.switch.Switch.TheVariants.{Fetches, Preflights}
use Rattle.fetch_rules.specs.declared.switch.Switch.TheVariants as switch
use Rattle.fetch_answers.specs.declared.answers.Ended.{Ended}
use Rattle.fetch_answers.specs.declared.answers.Ended.TheVariants.{Over, Reads}
use Rattle.fetch_answers.specs.declared.answers.Redirection.{Redirection}
use Rattle.fetch_answers.specs.declared.answers.Redirection.TheVariants.{Goes, Refuses, Stays}
use Rattle.fetch_answers.specs.Endings.{ended_under}
use Rattle.fetch_answers.specs.Following.{redirected_request}
use Rattle.fetch_answers.specs.Judging.{refusal_after}
use Rattle.fetch_answers.specs.Redirects.{redirection}
use Rattle.script_scenarios.specs.declared.document.Document.{Document}
use Rattle.fetch_definitions.specs.Fetch.{again, ends, fetch, finished, onward_of}
use Rattle.fetch_definitions.specs.HttpFetch.{after_head, answered, http_fetch, judged, read_head, redirected}
use Rattle.fetch_definitions.specs.MainFetch.{checked, main_fetch, matched_by, switched_by, unless_refused}
use Rattle.fetch_definitions.specs.MainFetch.{unless_violated}
use Rattle.fetch_definitions.specs.PreflightFetch.{after_preflight_head, clearing, covered_or_not, names_of}
use Rattle.fetch_definitions.specs.PreflightFetch.{preflight_judged, read_preflight_head}
use Rattle.fetch_definitions.specs.Then.{Context, Onward, Then, said_yes, tell_all, then_ask_where, was_sent}
use Rattle.script_runs.specs.Play.{Play, emit, events_of, over, step}
use Rattle.script_runs.specs.Runs.{Next, Progress, after_events, at_time, document_run, embed, outcome_event}
use Rattle.script_runs.specs.Runs.{setting_of}
use Rattle.script_runs.specs.Runs.{showing}
use Rattle.script_runs.proofs.ScriptLemmas.{good-document}

-- How far an exchange has come: nothing is known of what is to come; a request was sent; and the head of its answer was
-- read.
pub data Stage : Type 0 where
  idle : Stage
  asking : Stage
  headed : Stage

-- the act may be done at this stage
abbrev pub Can : Stage → Act → Type 0
Can asking ReadHead = Unit {0}
Can idle ReadHead = ⊥
Can headed ReadHead = ⊥
Can headed ReadBody = Unit {0}
Can idle ReadBody = ⊥
Can asking ReadBody = ⊥
Can stage first = Unit {0}

-- how far the exchange has come after an act and its input
abbrev pub stage_after : Stage → Act → Input → Stage
stage_after stage (Send hop) Sent = asking
stage_after stage (Send hop) input = idle
stage_after stage ReadHead (HeadIs head) = headed
stage_after stage ReadHead input = idle
stage_after stage ReadBody input = idle
stage_after stage (Ask op) input = stage
stage_after stage (Tell violation) input = stage

-- each act may be done at its stage
abbrev pub Ordered : Stage → Process → Type 0
Ordered stage (ended outcome) = Unit {0}
Ordered stage (act request first after) =
    Can stage first × ((input : Input) → Ordered (stage_after stage first input) (after input))

-- ---- asking and telling

can-ask : (stage : Stage) (op : Op) → Can stage (Ask op)
can-ask idle op = tt
can-ask asking op = tt
can-ask headed op = tt

can-send : (stage : Stage) (hop : Hop) → Can stage (Send hop)
can-send idle hop = tt
can-send asking hop = tt
can-send headed hop = tt

can-tell : (stage : Stage) (violation : Violation) → Can stage (Tell violation)
can-tell idle violation = tt
can-tell asking violation = tt
can-tell headed violation = tt

ordered-if : (b : Bool) (stage : Stage) (p q : Process) → Ordered stage p → Ordered stage q → Ordered stage (cond b p q)
ordered-if true stage p q x y = x
ordered-if false stage p q x y = y

ordered-ask_where : (stage : Stage) (request : Request) (op : Option Op) (rest : Process) → Ordered stage rest
    → Ordered stage (then_ask_where request op rest)
ordered-ask_where stage request None rest ordered = ordered
ordered-ask_where stage request (Some op) rest ordered = (can-ask stage op, λ input. ordered)

ordered-tell_all : (stage : Stage) (request : Request) (violations : List Violation) (rest : Process)
    → Ordered stage rest → Ordered stage (tell_all request violations rest)
ordered-tell_all stage request [] rest ordered = ordered
ordered-tell_all stage request (violation ∷ violations) rest ordered =
    (can-tell stage violation, λ input. ordered-tell_all stage request violations rest ordered)

-- ---- what follows a level

-- What follows is ordered: after a network error at any stage, and after a head that was read.
pub record OrderedThen (next : Then) : Type 0 where
  pub error : (stage : Stage) (request : Request) (error : NetError) → Ordered stage (next request (Err error))
  pub head : (request : Request) (head : Head) → Ordered headed (next request (Ok head))

-- a redirect is ordered where what follows it is
abbrev OrderedOnward : Onward → Type 0
OrderedOnward onward =
    (next : Then) → OrderedThen next → (stage : Stage) (request : Request) → Ordered stage (onward next request)

ordered-ends : (request : Request) (end : Ended) → Ordered headed (ends request end)
ordered-ends request (Over outcome) = tt
ordered-ends request (Reads response) = (tt, λ input. tt)

ordered-finished : (context : Context) → OrderedThen (finished context)
ordered-finished context = record {
  error = λ stage request error. tt;
  head = λ request head.
      let end = ended_under context.policies context.client.origin request head in
      ordered-tell_all headed request (response_violations context.policies request context.client.origin)
      (ends request end) (ordered-ends request end);
}

ordered-clearing : (context : Context) (next : Then) → OrderedThen next → OrderedThen (clearing context next)
ordered-clearing context next ordered = record {
  error = λ stage request error. (can-ask stage _, λ input. ordered.error stage request error);
  head = ordered.head;
}

-- ---- the rules of one level
module _ (context : Context) (onward : Onward) (next : Then) (on : OrderedOnward onward)
    (then_is : OrderedThen next) where
  ordered-redirected : (request : Request) (head : Head) (where_to : Redirection)
      → Ordered headed (redirected onward next request head where_to)
  ordered-redirected request head Stays = then_is.head request head
  ordered-redirected request head (Refuses error) = then_is.error headed request error
  ordered-redirected request head (Goes url) = on next then_is headed (redirected_request request head url)

  ordered-judged : (request : Request) (head : Head) (refusal : Option NetError)
      → Ordered headed (judged onward next request head refusal)
  ordered-judged request head (Some error) = then_is.error headed request error
  ordered-judged request head None = ordered-redirected request head (redirection request head)

  ordered-answered : (request : Request) (head : Head)
      → Ordered headed (answered onward context next request (Ok head))
  ordered-answered request head =
      ordered-ask_where headed request (note_of context.now request head)
      (judged onward next request head (refusal_after request head))
      (ordered-judged request head (refusal_after request head))

  ordered-head : (request : Request) (input : Input)
      → Ordered (stage_after asking ReadHead input) (after_head onward context next request input)
  ordered-head request (HeadIs head) = ordered-answered request head
  ordered-head request input = then_is.error idle request _

  ordered-read_head : (stage : Stage) (hop : Hop) (request : Request) (input : Input)
      → Ordered (stage_after stage (Send hop) input) (read_head onward context next request (was_sent input))
  ordered-read_head stage hop request Sent = (tt, ordered-head request)
  ordered-read_head stage hop request input = then_is.error idle request LinkFault

  ordered-http_fetch : (stage : Stage) (request : Request) → Ordered stage (http_fetch onward context next request)
  ordered-http_fetch stage request =
      let hop = hop_of context.cookies request in
      (can-send stage hop, ordered-read_head stage hop request)

  -- ---- the preflight

  ordered-preflight_judged : (request : Request) (verdict : Checked)
      → Ordered headed (preflight_judged onward context next request verdict)
  ordered-preflight_judged request (Refused error) = then_is.error headed request error
  ordered-preflight_judged request (Pass age methods names) = (tt, λ input. ordered-http_fetch headed request)

  ordered-preflight_head : (request : Request) (input : Input)
      → Ordered (stage_after asking ReadHead input) (after_preflight_head onward context next request input)
  ordered-preflight_head request (HeadIs head) =
      let verdict_is = verdict request (serialized_request_origin request) (names_of request) head in
      ordered-ask_where headed request (note_of context.now request head)
      (preflight_judged onward context next request verdict_is) (ordered-preflight_judged request verdict_is)
  ordered-preflight_head request input = then_is.error idle request _

  ordered-read_preflight : (stage : Stage) (hop : Hop) (request : Request) (input : Input)
      → Ordered (stage_after stage (Send hop) input) (read_preflight_head onward context next request (was_sent input))
  ordered-read_preflight stage hop request Sent = (tt, ordered-preflight_head request)
  ordered-read_preflight stage hop request input = then_is.error idle request LinkFault

  ordered-covered : (stage : Stage) (request : Request) (covered : Bool)
      → Ordered stage (covered_or_not onward context next request covered)
  ordered-covered stage request true = ordered-http_fetch stage request
  ordered-covered stage request false =
      let hop = preflight_of request (names_of request) in
      (can-send stage hop, ordered-read_preflight stage hop request)

-- ---- main fetch

ordered-switched : (context : Context) (onward : Onward) (next : Then) → OrderedOnward onward → OrderedThen next
    → (stage : Stage) (request : Request) (kind : Switch)
    → Ordered stage (switched_by onward context next request kind)
ordered-switched context onward next on then_is stage request (Fetches kind) =
    ordered-http_fetch context onward next on then_is stage (with_tainting kind request)
ordered-switched context onward next on then_is stage request Preflights = (
  can-ask stage _,
  λ input. ordered-covered context onward (clearing context next) on (ordered-clearing context next then_is) stage
      (with_tainting tainting.Cors request) (said_yes input),
)
ordered-switched context onward next on then_is stage request (switch.Refuses error) =
    then_is.error stage request error

ordered-matched : (context : Context) (onward : Onward) (next : Then) → OrderedOnward onward → OrderedThen next
    → (stage : Stage) (request : Request) (question : Option Op)
    → Ordered stage (matched_by onward context next request question)
ordered-matched context onward next on then_is stage request None =
    ordered-switched context onward next on then_is stage request (switch_of request)
ordered-matched context onward next on then_is stage request (Some op) = (
  can-ask stage op,
  λ input.
      let secure = secured_where (said_yes input) request in
      ordered-switched context onward next on then_is stage secure (switch_of secure),
)

ordered-unless_violated : (context : Context) (onward : Onward) (next : Then) → OrderedOnward onward
    → OrderedThen next → (stage : Stage) (request : Request) (violations : List Violation)
    → Ordered stage (unless_violated onward context next request violations)
ordered-unless_violated context onward next on then_is stage request [] =
    let referred = with_referrer context.client request in
    ordered-matched context onward next on then_is stage referred (match_of context.now referred)
ordered-unless_violated context onward next on then_is stage request (violation ∷ violations) =
    ordered-tell_all stage request (violation ∷ violations) (next request (Err CspRequest))
    (then_is.error stage request CspRequest)

ordered-unless_refused : (context : Context) (onward : Onward) (next : Then) → OrderedOnward onward
    → OrderedThen next → (stage : Stage) (request : Request) (refusal : Option NetError)
    → Ordered stage (unless_refused onward context next request refusal)
ordered-unless_refused context onward next on then_is stage request (Some error) = then_is.error stage request error
ordered-unless_refused context onward next on then_is stage request None =
    ordered-unless_violated context onward next on then_is stage request
    (request_violations context.policies request context.client.origin true)

ordered-main_fetch : (context : Context) (onward : Onward) (next : Then) → OrderedOnward onward → OrderedThen next
    → (stage : Stage) (request : Request) → Ordered stage (main_fetch onward context next request)
ordered-main_fetch context onward next on then_is stage request =
    let upped = upgraded context.client context.policies request in
    ordered-if (is_http_url (current_url request)) stage
    (tell_all request (request_violations context.policies request context.client.origin false)
    (checked onward context next upped))
    (next request (Err Scheme))
    (ordered-tell_all stage request (request_violations context.policies request context.client.origin false)
    (checked onward context next upped)
    (ordered-unless_refused context onward next on then_is stage upped (refusal_before context.client upped)))
    (then_is.error stage request Scheme)

ordered-again : (left : ℕ) (context : Context) → OrderedOnward (again left context)
ordered-again zero context next then_is stage request = then_is.error stage request TooManyRedirects
ordered-again (suc left) context next then_is stage request =
    ordered-main_fetch context (again left context) next (ordered-again left context) then_is stage request

-- a whole fetch, however far the exchange before it has come
ordered-fetch : (context : Context) (request : Request) (stage : Stage) → Ordered stage (fetch context request)
ordered-fetch context request stage =
    ordered-main_fetch context (onward_of context request) (finished context)
    (ordered-again (20 - request.redirects) context) (ordered-finished context) stage request

-- ---- a document's run

-- each act may be done at its stage; after an event that the run itself shows nothing is known
abbrev pub OrderedPlay : Stage → Play → Type 0
OrderedPlay stage (over ending clock) = Unit {0}
OrderedPlay stage (emit event rest) = OrderedPlay idle rest
OrderedPlay stage (step request first after) =
    Can stage first × ((input : Input) → OrderedPlay (stage_after stage first input) (after input))

ordered-embed : (stage : Stage) (process : Process) (next : Outcome → Next) (progress : Progress)
    → Ordered stage process
    → ((came : Outcome) (later : Progress) (behind : Stage) → OrderedPlay behind (next came later))
    → OrderedPlay stage (embed process next progress)
ordered-embed stage (ended outcome) next progress ordered all = all outcome progress stage
ordered-embed stage (act request first after) next progress ordered all = (
  ordered.0,
  λ input. ordered-embed (stage_after stage first input) (after input) next
      (after_events (events_of first input) progress) (ordered.1 input) all,
)

pub ordered-document : (cookies : List Cookie) (base : ℕ) (document : Document)
    → OrderedPlay idle (document_run cookies base document)
ordered-document cookies base document =
    good-document cookies base document (λ (play : Play). (stage : Stage) → OrderedPlay stage play) (record {
      at_end = λ ending clock stage. tt;
      at_start = λ kind number rest good stage. good idle;
      at_fault = λ kind fault rest good stage. good idle;
      at_fetch = λ kind request next progress made stands good stage.
          let context = at_time (setting_of cookies document) progress.clock in
          ordered-embed stage (fetch context request) (λ came. showing (outcome_event kind came) next) progress
          (ordered-fetch context request stage)
          (λ came later behind. good (after_events (outcome_event kind came ∷ []) later) tt idle);
    }) idle
