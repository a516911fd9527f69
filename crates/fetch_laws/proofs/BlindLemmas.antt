-- A fetch goes on from the permitted view of a head as from the head: rule by rule.
use Rattle.std.proofs.Common.{◌≡◌, ◌∙◌, ℕ, zero, suc, Bool, true, false, not, cond, List, [], ◌∷◌, refl, ap, IsTrue}
use Rattle.std.proofs.Common.{◌-◌, Some, None, Option, Ok, Err, Result}
use Rattle.url.specs.Parts.{Parts}
use Rattle.value_requests.specs.declared.error.NetError.{NetError}
use Rattle.value_requests.specs.declared.error.NetError.TheVariants.{CspRequest, LinkFault, Scheme, TooManyRedirects}
use Rattle.value_requests.specs.declared.hop.Head.{Head}
use Rattle.value_requests.specs.declared.hop.Hop.{Hop}
use Rattle.value_requests.specs.declared.mode.Tainting.TheVariants as tainting
use Rattle.value_requests.specs.declared.policy.Violation.{Violation}
use Rattle.value_requests.specs.declared.request.Request.{Request}
use Rattle.value_requests.specs.Requests.{current_url, is_http_url}
use Rattle.policy_checks.specs.RequestOrigins.{serialized_request_origin}
use Rattle.book_calls.specs.declared.op.Op.{Op}
use Rattle.policy_csp.specs.Violations.{has_enforced, request_violations, response_violations, upgrades}
use Rattle.policy_preflight.specs.declared.answer.Checked.{Checked}
use Rattle.policy_preflight.specs.declared.answer.Checked.TheVariants.{Pass, Refused}
use Rattle.policy_preflight.specs.Preflight.{preflight_of}
use Rattle.policy_preflight.specs.Verdict.{verdict}
use Rattle.policy_preflight.proofs.ViewLemmas.{verdict-seen}
use Rattle.policy_filter.specs.Laws.{follows_or_fetches}
use Rattle.policy_filter.specs.Views.{permitted_view}
use Rattle.policy_filter.proofs.LawLemmas.{keeps_known_host}
use Rattle.policy_checks.specs.Mixed.{is_upgraded}
use Rattle.fetch_requests.specs.Heads.{hop_of}
use Rattle.fetch_acts.specs.declared.act.Act.TheVariants.{ReadHead}
use Rattle.fetch_acts.specs.declared.act.Input.{Input}
use Rattle.fetch_acts.specs.declared.act.Input.TheVariants.{BodyIs, Fault, HeadBad, HeadIs, HeadLong, Replied, Sent}
use Rattle.fetch_acts.specs.declared.act.Input.TheVariants.{Told}
use Rattle.fetch_acts.specs.Process.{Process, fits}
use Rattle.fetch_rules.specs.Blocking.{refusal_before}
use Rattle.fetch_rules.specs.KnownHosts.{match_of, note_of}
use Rattle.fetch_rules.specs.Referrers.{with_referrer}
use Rattle.fetch_rules.specs.Switch.{switch_of, with_tainting}
use Rattle.fetch_rules.specs.Upgrading.{insecure_upgraded, secured_where, upgraded}
use Rattle.fetch_rules.specs.declared.switch.Switch.{Switch}
use Rattle.fetch_rules.specs.declared.switch.Switch.TheVariants.{Fetches, Preflights}
use Rattle.fetch_rules.specs.declared.switch.Switch.TheVariants as switch
use Rattle.fetch_rules.proofs.HeadLemmas.{note-alike}
use Rattle.fetch_answers.specs.declared.answers.Ended.{Ended}
use Rattle.fetch_answers.specs.declared.answers.Ended.TheVariants.{Over, Reads}
use Rattle.fetch_answers.specs.declared.answers.Redirection.{Redirection}
use Rattle.fetch_answers.specs.declared.answers.Redirection.TheVariants.{Goes, Refuses, Stays}
use Rattle.fetch_answers.specs.Endings.{ended_under}
use Rattle.fetch_answers.specs.Following.{redirected_request, turned_to_get, turns_to_get, with_method_after}
use Rattle.fetch_answers.specs.Following.{without_authorization}
use Rattle.fetch_answers.specs.Judging.{refusal_after}
use Rattle.fetch_answers.specs.Laws.{IsLast, IsPassed}
use Rattle.fetch_answers.specs.Redirects.{redirection}
use Rattle.fetch_answers.proofs.LawLemmas.{keeps_ending, keeps_redirected, keeps_redirection, keeps_refusal}
use Rattle.value_origins.specs.Origins.{have_same_origin}
use Rattle.fetch_definitions.specs.Fetch.{again, ends, fetch, finished, onward_of}
use Rattle.fetch_definitions.specs.HttpFetch.{after_head, answered, http_fetch, judged, read_head, redirected}
use Rattle.fetch_definitions.specs.MainFetch.{checked, main_fetch, matched_by, switched_by, unless_refused}
use Rattle.fetch_definitions.specs.MainFetch.{unless_violated}
use Rattle.fetch_definitions.specs.PreflightFetch.{after_preflight_head, clearing, covered_or_not, names_of}
use Rattle.fetch_definitions.specs.PreflightFetch.{preflight_answered}
use Rattle.fetch_definitions.specs.PreflightFetch.{preflight_judged, read_preflight_head}
use Rattle.fetch_definitions.specs.Then.{Context, Onward, Then, head_of, said_yes, tell_all, then_ask_where, was_sent}
use Rattle.fetch_laws.specs.Blind.{Blind}
use Rattle.fetch_laws.specs.Seen.{seen}

-- ---- requests that follow or fetch stay so

-- the redirect mode is follow or the destination that of a `fetch`
abbrev IsPlain : Request → Type 0
IsPlain request = IsTrue (follows_or_fetches request)

plain-if : (b : Bool) (p q : Request) → IsPlain p → IsPlain q → IsPlain (cond b p q)
plain-if true p q x y = x
plain-if false p q x y = y

plain-method : (status : ℕ) (request : Request) → IsPlain request → IsPlain (with_method_after status request)
plain-method status request plain =
    plain-if (turns_to_get request.method status) (turned_to_get request) request plain plain

plain-redirected : (request : Request) (head : Head) (url : Parts) → IsPlain request
    → IsPlain (redirected_request request head url)
plain-redirected request head url plain =
    let after = with_method_after head.status request in
    plain-if (have_same_origin (current_url after) url) after (without_authorization after)
    (plain-method head.status request plain) (plain-method head.status request plain)

plain-secured : (b : Bool) (request : Request) → IsPlain request → IsPlain (secured_where b request)
plain-secured true request plain = plain
plain-secured false request plain = plain

plain-upgraded : (context : Context) (request : Request) → IsPlain request
    → IsPlain (upgraded context.client context.policies request)
plain-upgraded context request plain =
    let insecure = insecure_upgraded context.policies request in
    plain-secured (is_upgraded insecure context.client.origin context.client.top) insecure
    (plain-secured (upgrades context.policies) request plain)

-- ---- of any process

blind-if : (b : Bool) (sent : Option Hop) (p q : Process) → Blind sent p → Blind sent q → Blind sent (cond b p q)
blind-if true sent p q x y = x
blind-if false sent p q x y = y

blind-ask_where : (sent : Option Hop) (request : Request) (op : Option Op) (rest : Process) → Blind sent rest
    → Blind sent (then_ask_where request op rest)
blind-ask_where sent request None rest blind = blind
blind-ask_where sent request (Some op) rest blind = (λ input fit. refl, λ input. blind)

blind-tell_all : (sent : Option Hop) (request : Request) (violations : List Violation) (rest : Process)
    → Blind sent rest → Blind sent (tell_all request violations rest)
blind-tell_all sent request [] rest blind = blind
blind-tell_all sent request (violation ∷ violations) rest blind =
    (λ input fit. refl, λ input. blind-tell_all sent request violations rest blind)

-- ---- what follows a level

-- What follows is blind, and does with the view of a head that a fetch ends with what it does with the head.
pub record BlindThen (next : Then) : Type 0 where
  pub all : (sent : Option Hop) (request : Request) (came : Result Head NetError) → Blind sent (next request came)
  pub last : (request : Request) (hop : Hop) (head : Head) → IsLast request hop head → IsPlain request
      → next request (Ok (permitted_view request hop head)) ≡ next request (Ok head)

-- a redirect is blind where what follows it is
abbrev pub BlindOnward : Onward → Type 0
BlindOnward onward =
    (next : Then) → BlindThen next → (sent : Option Hop) (request : Request) → IsPlain request
    → Blind sent (onward next request)

blind-ends : (sent : Option Hop) (request : Request) (end : Ended) → Blind sent (ends request end)
blind-ends sent request (Over outcome) = tt
blind-ends sent request (Reads response) = (λ input fit. refl, λ input. tt)

all-finished : (context : Context) (sent : Option Hop) (request : Request) (came : Result Head NetError)
    → Blind sent (finished context request came)
all-finished context sent request (Err error) = tt
all-finished context sent request (Ok head) =
    let end = ended_under context.policies context.client.origin request head in
    blind-tell_all sent request (response_violations context.policies request context.client.origin)
    (ends request end) (blind-ends sent request end)

pub blind-finished : (context : Context) → BlindThen (finished context)
blind-finished context = record {
  all = all-finished context;
  last = λ request hop head last plain.
      let violations = response_violations context.policies request context.client.origin in
      ap (λ end. tell_all request violations (ends request end))
      (keeps_ending request hop head (has_enforced violations) last plain);
}

all-clearing : (context : Context) (next : Then) → BlindThen next → (sent : Option Hop) (request : Request)
    (came : Result Head NetError) → Blind sent (clearing context next request came)
all-clearing context next blind sent request (Ok head) = blind.all sent request (Ok head)
all-clearing context next blind sent request (Err error) =
    (λ input fit. refl, λ input. blind.all sent request (Err error))

pub blind-clearing : (context : Context) (next : Then) → BlindThen next → BlindThen (clearing context next)
blind-clearing context next blind = record { all = all-clearing context next blind; last = blind.last }

-- ---- the rules of one level
module _ (context : Context) (onward : Onward) (next : Then) (on : BlindOnward onward) (blind : BlindThen next) where
  -- ---- the answer

  blind-redirected : (sent : Option Hop) (request : Request) (head : Head) (where_to : Redirection) → IsPlain request
      → Blind sent (redirected onward next request head where_to)
  blind-redirected sent request head Stays plain = blind.all sent request (Ok head)
  blind-redirected sent request head (Refuses error) plain = blind.all sent request (Err error)
  blind-redirected sent request head (Goes url) plain =
      on next blind sent (redirected_request request head url) (plain-redirected request head url plain)

  blind-judged : (sent : Option Hop) (request : Request) (head : Head) (refusal : Option NetError) → IsPlain request
      → Blind sent (judged onward next request head refusal)
  blind-judged sent request head (Some error) plain = blind.all sent request (Err error)
  blind-judged sent request head None plain =
      blind-redirected sent request head (redirection request head) plain

  blind-answered : (sent : Option Hop) (request : Request) (came : Result Head NetError) → IsPlain request
      → Blind sent (answered onward context next request came)
  blind-answered sent request (Err error) plain = blind.all sent request (Err error)
  blind-answered sent request (Ok head) plain =
      blind-ask_where sent request (note_of context.now request head)
      (judged onward next request head (refusal_after request head))
      (blind-judged sent request head (refusal_after request head) plain)

  -- where a head is not refused, its view is followed as it is
  redirected-seen : (request : Request) (hop : Hop) (head : Head) → IsPassed request hop head → IsPlain request
      → (where_to : Redirection) → redirection request head ≡ where_to
      → redirected onward next request (permitted_view request hop head) where_to
      ≡ redirected onward next request head where_to
  redirected-seen request hop head passed plain Stays is =
      blind.last request hop head (record { passed = passed; stays = is }) plain
  redirected-seen request hop head passed plain (Refuses error) is = refl
  redirected-seen request hop head passed plain (Goes url) is =
      ap (onward next) (keeps_redirected request hop head url passed is)

  judged-seen : (request : Request) (hop : Hop) (head : Head) → IsTrue (not hop.preflight) → IsPlain request
      → (refusal : Option NetError) → refusal_after request head ≡ refusal
      → judged onward next request (permitted_view request hop head) refusal
      ≡ judged onward next request head refusal
  judged-seen request hop head sent plain (Some error) is = refl
  judged-seen request hop head sent plain None is =
      let passed : IsPassed request hop head = record { sent = sent; passed = is } in
      ap (redirected onward next request (permitted_view request hop head)) (keeps_redirection request hop head passed)
      ∙ redirected-seen request hop head passed plain (redirection request head) refl

  answered-seen : (request : Request) (hop : Hop) (head : Head) → IsTrue (not hop.preflight) → IsPlain request
      → answered onward context next request (Ok (permitted_view request hop head))
      ≡ answered onward context next request (Ok head)
  answered-seen request hop head sent plain =
      let view = permitted_view request hop head in
      ap (λ note. then_ask_where request note (judged onward next request view (refusal_after request view)))
      (note-alike context.now request view head (keeps_known_host request hop head))
      ∙ ap (λ refusal. then_ask_where request (note_of context.now request head)
      (judged onward next request view refusal)) (keeps_refusal request hop head sent)
      ∙ ap (then_ask_where request (note_of context.now request head))
      (judged-seen request hop head sent plain (refusal_after request head) refl)

  head-seen : (request : Request) (hop : Hop) → IsTrue (not hop.preflight) → IsPlain request → (input : Input)
      → IsTrue (fits ReadHead input)
      → after_head onward context next request (seen ReadHead request (Some hop) input)
      ≡ after_head onward context next request input
  head-seen request hop sent plain (HeadIs head) fit = answered-seen request hop head sent plain
  head-seen request hop sent plain (Replied reply) fit = refl
  head-seen request hop sent plain Sent fit = refl
  head-seen request hop sent plain HeadBad fit = refl
  head-seen request hop sent plain HeadLong fit = refl
  head-seen request hop sent plain (BodyIs body) fit = refl
  head-seen request hop sent plain Fault fit = refl
  head-seen request hop sent plain Told fit = refl

  blind-read_head : (request : Request) (hop : Hop) (went : Bool) → IsTrue (not hop.preflight) → IsPlain request
      → Blind (Some hop) (read_head onward context next request went)
  blind-read_head request hop true sent plain =
      (head-seen request hop sent plain, λ input. blind-answered (Some hop) request (head_of input) plain)
  blind-read_head request hop false sent plain = blind.all (Some hop) request (Err LinkFault)

  blind-http_fetch : (sent : Option Hop) (request : Request) → IsPlain request
      → Blind sent (http_fetch onward context next request)
  blind-http_fetch sent request plain = (
    λ input fit. refl,
    λ input. blind-read_head request (hop_of context.cookies request) (was_sent input) refl plain,
  )

  -- ---- the preflight

  blind-preflight_judged : (sent : Option Hop) (request : Request) (checked : Checked) → IsPlain request
      → Blind sent (preflight_judged onward context next request checked)
  blind-preflight_judged sent request (Refused error) plain = blind.all sent request (Err error)
  blind-preflight_judged sent request (Pass age methods names) plain =
      (λ input fit. refl, λ input. blind-http_fetch sent request plain)

  -- the verdict on the answer to the preflight of a request
  abbrev verdict_on : Request → Head → Checked
  verdict_on request head = verdict request (serialized_request_origin request) (names_of request) head

  blind-preflight_answered : (sent : Option Hop) (request : Request) (came : Result Head NetError) → IsPlain request
      → Blind sent (preflight_answered onward context next request came)
  blind-preflight_answered sent request (Err error) plain = blind.all sent request (Err error)
  blind-preflight_answered sent request (Ok head) plain =
      blind-ask_where sent request (note_of context.now request head)
      (preflight_judged onward context next request (verdict_on request head))
      (blind-preflight_judged sent request (verdict_on request head) plain)

  -- of the answer to a preflight its view is judged as it is
  preflight_answered-seen : (request : Request) (names : List (List ℕ)) (head : Head)
      → preflight_answered onward context next request (Ok (permitted_view request (preflight_of request names) head))
      ≡ preflight_answered onward context next request (Ok head)
  preflight_answered-seen request names head =
      let view = permitted_view request (preflight_of request names) head in
      ap (λ note. then_ask_where request note
      (preflight_judged onward context next request (verdict_on request view)))
      (note-alike context.now request view head (keeps_known_host request (preflight_of request names) head))
      ∙ ap (λ judged_as. then_ask_where request (note_of context.now request head)
      (preflight_judged onward context next request judged_as))
      (verdict-seen request (serialized_request_origin request) (names_of request) head)

  preflight_head-seen : (request : Request) (names : List (List ℕ)) (input : Input) → IsTrue (fits ReadHead input)
      → after_preflight_head onward context next request
      (seen ReadHead request (Some (preflight_of request names)) input)
      ≡ after_preflight_head onward context next request input
  preflight_head-seen request names (HeadIs head) fit = preflight_answered-seen request names head
  preflight_head-seen request names (Replied reply) fit = refl
  preflight_head-seen request names Sent fit = refl
  preflight_head-seen request names HeadBad fit = refl
  preflight_head-seen request names HeadLong fit = refl
  preflight_head-seen request names (BodyIs body) fit = refl
  preflight_head-seen request names Fault fit = refl
  preflight_head-seen request names Told fit = refl

  blind-read_preflight_head : (request : Request) (names : List (List ℕ)) (went : Bool) → IsPlain request
      → Blind (Some (preflight_of request names)) (read_preflight_head onward context next request went)
  blind-read_preflight_head request names true plain = (
    preflight_head-seen request names,
    λ input. blind-preflight_answered (Some (preflight_of request names)) request (head_of input) plain,
  )
  blind-read_preflight_head request names false plain =
      blind.all (Some (preflight_of request names)) request (Err LinkFault)

  blind-covered : (sent : Option Hop) (request : Request) (covered : Bool) → IsPlain request
      → Blind sent (covered_or_not onward context next request covered)
  blind-covered sent request true plain = blind-http_fetch sent request plain
  blind-covered sent request false plain =
      (λ input fit. refl, λ input. blind-read_preflight_head request (names_of request) (was_sent input) plain)

-- ---- main fetch

blind-switched : (context : Context) (onward : Onward) (next : Then) → BlindOnward onward → BlindThen next
    → (sent : Option Hop) (request : Request) (kind : Switch) → IsPlain request
    → Blind sent (switched_by onward context next request kind)
blind-switched context onward next on blind sent request (Fetches kind) plain =
    blind-http_fetch context onward next on blind sent (with_tainting kind request) plain
blind-switched context onward next on blind sent request Preflights plain = (
  λ input fit. refl,
  λ input. blind-covered context onward (clearing context next) on (blind-clearing context next blind) sent
      (with_tainting tainting.Cors request) (said_yes input) plain,
)
blind-switched context onward next on blind sent request (switch.Refuses error) plain =
    blind.all sent request (Err error)

blind-matched : (context : Context) (onward : Onward) (next : Then) → BlindOnward onward → BlindThen next
    → (sent : Option Hop) (request : Request) (question : Option Op) → IsPlain request
    → Blind sent (matched_by onward context next request question)
blind-matched context onward next on blind sent request None plain =
    blind-switched context onward next on blind sent request (switch_of request) plain
blind-matched context onward next on blind sent request (Some op) plain = (
  λ input fit. refl,
  λ input.
      let secure = secured_where (said_yes input) request in
      blind-switched context onward next on blind sent secure (switch_of secure)
      (plain-secured (said_yes input) request plain),
)

blind-unless_violated : (context : Context) (onward : Onward) (next : Then) → BlindOnward onward → BlindThen next
    → (sent : Option Hop) (request : Request) (violations : List Violation) → IsPlain request
    → Blind sent (unless_violated onward context next request violations)
blind-unless_violated context onward next on blind sent request [] plain =
    let referred = with_referrer context.client request in
    blind-matched context onward next on blind sent referred (match_of context.now referred) plain
blind-unless_violated context onward next on blind sent request (violation ∷ violations) plain =
    blind-tell_all sent request (violation ∷ violations) (next request (Err CspRequest))
    (blind.all sent request (Err CspRequest))

blind-unless_refused : (context : Context) (onward : Onward) (next : Then) → BlindOnward onward → BlindThen next
    → (sent : Option Hop) (request : Request) (refusal : Option NetError) → IsPlain request
    → Blind sent (unless_refused onward context next request refusal)
blind-unless_refused context onward next on blind sent request (Some error) plain =
    blind.all sent request (Err error)
blind-unless_refused context onward next on blind sent request None plain =
    blind-unless_violated context onward next on blind sent request
    (request_violations context.policies request context.client.origin true) plain

pub blind-main_fetch : (context : Context) (onward : Onward) (next : Then) → BlindOnward onward → BlindThen next
    → (sent : Option Hop) (request : Request) → IsPlain request
    → Blind sent (main_fetch onward context next request)
blind-main_fetch context onward next on blind sent request plain =
    let upped = upgraded context.client context.policies request in
    blind-if (is_http_url (current_url request)) sent
    (tell_all request (request_violations context.policies request context.client.origin false)
    (checked onward context next upped))
    (next request (Err Scheme))
    (blind-tell_all sent request (request_violations context.policies request context.client.origin false)
    (checked onward context next upped)
    (blind-unless_refused context onward next on blind sent upped (refusal_before context.client upped)
    (plain-upgraded context request plain)))
    (blind.all sent request (Err Scheme))

pub blind-again : (left : ℕ) (context : Context) → BlindOnward (again left context)
blind-again zero context next blind sent request plain = blind.all sent request (Err TooManyRedirects)
blind-again (suc left) context next blind sent request plain =
    blind-main_fetch context (again left context) next (blind-again left context) blind sent request plain

-- a whole fetch, whatever was sent before it
pub blind-fetch : (context : Context) (request : Request) (sent : Option Hop) → IsTrue (follows_or_fetches request)
    → Blind sent (fetch context request)
blind-fetch context request sent plain =
    blind-main_fetch context (onward_of context request) (finished context)
    (blind-again (20 - request.redirects) context) (blind-finished context) sent request plain
