-- Each op of a fetch has words, and what is printed of the fetch as it is has no LF: through the whole fetch.
use Rattle.std.proofs.Common.{◌≡◌, ◌-◌, ℕ, zero, suc, Bool, true, false, List, [], ◌∷◌, map}
use Rattle.std.proofs.Common.{refl, Option, Some, None, Result, Ok, Err}
use Rattle.std.specs.Prelude.{IfSome, IsTrue}
use Rattle.std.specs.List.{AllByRecursion}
use Rattle.std.proofs.lemmas.Bool.{cond_both}
use Rattle.value_origins.specs.Origins.{origin_of}
use Rattle.value_requests.specs.declared.error.NetError.{NetError}
use Rattle.value_requests.specs.declared.error.NetError.TheVariants as error
use Rattle.value_requests.specs.declared.hop.Head.{Head}
use Rattle.value_requests.specs.declared.mode.Mode.{Mode}
use Rattle.value_requests.specs.declared.mode.Mode.TheVariants as mode
use Rattle.value_requests.specs.declared.mode.RedirectMode.{RedirectMode}
use Rattle.value_requests.specs.declared.mode.RedirectMode.TheVariants as redirect
use Rattle.value_requests.specs.declared.mode.Tainting.{Tainting}
use Rattle.value_requests.specs.declared.mode.Tainting.TheVariants as tainting
use Rattle.value_requests.specs.declared.policy.Violation.{Violation}
use Rattle.value_requests.specs.declared.request.Request.{Request}
use Rattle.value_requests.specs.Requests.{current_url, is_http_url}
use Rattle.value_requests.specs.Targets.{origin_text}
use Rattle.book_calls.specs.declared.op.Op.{Op}
use Rattle.policy_checks.specs.RequestOrigins.{serialized_request_origin}
use Rattle.policy_csp.specs.Reading.{read_policy}
use Rattle.policy_csp.specs.Violations.{request_violations, response_violations, upgrades}
use Rattle.policy_checks.specs.Mixed.{is_blocked, is_upgraded}
use Rattle.policy_checks.specs.Ports.{is_bad_port}
use Rattle.policy_preflight.specs.declared.answer.Checked.{Checked}
use Rattle.policy_preflight.specs.declared.answer.Checked.TheVariants.{Pass, Refused}
use Rattle.policy_preflight.specs.Verdict.{verdict}
use Rattle.fetch_acts.specs.declared.act.Act.{Act}
use Rattle.fetch_acts.specs.declared.act.Act.TheVariants.{Ask, Send, Tell}
use Rattle.fetch_acts.specs.declared.act.Input.{Input}
use Rattle.fetch_acts.specs.declared.act.Input.TheVariants.{HeadBad, HeadIs, HeadLong}
use Rattle.fetch_acts.specs.Process.{Process, act, ended}
use Rattle.fetch_answers.specs.declared.answers.Ended.{Ended}
use Rattle.fetch_answers.specs.declared.answers.Ended.TheVariants.{Over, Reads}
use Rattle.fetch_answers.specs.declared.answers.Redirection.{Redirection}
use Rattle.fetch_answers.specs.declared.answers.Redirection.TheVariants.{Goes, Refuses as Stops, Stays}
use Rattle.fetch_answers.specs.Endings.{ended_under}
use Rattle.fetch_answers.specs.Following.{redirected_request}
use Rattle.fetch_answers.specs.Judging.{refusal_after}
use Rattle.fetch_answers.specs.Redirects.{redirection}
use Rattle.fetch_rules.specs.Blocking.{refusal_before}
use Rattle.fetch_rules.specs.KnownHosts.{match_of, note_of}
use Rattle.fetch_rules.specs.Referrers.{with_referrer}
use Rattle.fetch_rules.specs.Switch.{away_switch, cors_switch, is_at_home, needs_preflight, no_cors_switch, switch_of}
use Rattle.fetch_rules.specs.Switch.{with_tainting}
use Rattle.fetch_rules.specs.Upgrading.{secured_where, upgraded}
use Rattle.fetch_rules.specs.declared.switch.Switch.{Switch}
use Rattle.fetch_rules.specs.declared.switch.Switch.TheVariants.{Fetches, Preflights, Refuses}
use Rattle.fetch_definitions.specs.Fetch.{again, ends, fetch, finished, onward_of}
use Rattle.fetch_definitions.specs.HttpFetch.{answered, http_fetch, judged, read_head, redirected}
use Rattle.fetch_definitions.specs.MainFetch.{checked, main_fetch, matched_by, switched_by}
use Rattle.fetch_definitions.specs.MainFetch.{unless_refused, unless_violated}
use Rattle.fetch_definitions.specs.PreflightFetch.{clearing, covered_or_not, names_of, preflight_answered}
use Rattle.fetch_definitions.specs.PreflightFetch.{preflight_judged, read_preflight_head}
use Rattle.fetch_definitions.specs.Then.{Context, Onward, Then, body_of, head_of, said_yes, tell_all}
use Rattle.fetch_definitions.specs.Then.{then_ask_where, was_sent}
use Rattle.play_text.specs.Plain.{IsLine, IsPlainError, IsPlainOutcome}
use Rattle.play_text.specs.Words.{has_words}
use Rattle.play_words.proofs.AnswerWordLemmas.{AreErrors, IsPlainEnded, IsWordRedirection, after-plain, before-plain}
use Rattle.play_words.proofs.AnswerWordLemmas.{body-plain, ended-plain, redirection-word}
use Rattle.play_words.proofs.FetchWordLemmas.{IsPlainViolation, IsWordChecked, clear-words, covers-words, learn-words}
use Rattle.play_words.proofs.FetchWordLemmas.{match-words, note-words, verdict-word, violations-plain, word-line}
use Rattle.play_words.proofs.NameWordLemmas.{unsafe-tokens}
use Rattle.play_words.proofs.RequestWordLemmas.{IsWordRequest, redirected-word, where-word}
use Rattle.play_words.proofs.TextWordLemmas.{IsWord, place-word}

-- ---- what is shown

-- an op has words, and the origin of a request and the URL of a violation have no LF
abbrev pub IsPlainAct : Act → Type 0
IsPlainAct (Ask op) = IsTrue (has_words op)
IsPlainAct (Send hop) = IsLine hop.origin
IsPlainAct (Tell violation) = IsPlainViolation violation
IsPlainAct _ = Unit {0}

-- so is each act, and the outcome is plain
abbrev pub IsPlainProcess : Process → Type 0
IsPlainProcess (ended outcome) = IsPlainOutcome outcome
IsPlainProcess (act request first after) = IsPlainAct first × ((input : Input) → IsPlainProcess (after input))

-- what a level came to: a head, or a plain error
abbrev Came : Result Head NetError → Type 0
Came (Ok head) = Unit {0}
Came (Err reason) = IsPlainError reason

-- what follows a level is so
abbrev PlainThen : Then → Type 0
PlainThen next = (request : Request) (came : Result Head NetError) → IsWordRequest request → Came came
    → IsPlainProcess (next request came)

-- so is what follows a redirect
abbrev PlainOnward : Onward → Type 0
PlainOnward onward = (next : Then) → PlainThen next → (request : Request) → IsWordRequest request
    → IsPlainProcess (onward next request)

head-came : (input : Input) → Came (head_of input)
head-came (HeadIs head) = tt
head-came HeadBad = tt
head-came HeadLong = tt
head-came input = tt

ask-where : (request : Request) (op : Option Op) (rest : Process) → IfSome op (λ asked. IsTrue (has_words asked))
    → IsPlainProcess rest → IsPlainProcess (then_ask_where request op rest)
ask-where request None rest is plain = plain
ask-where request (Some op) rest is plain = (is, λ input. plain)

all-told : (request : Request) (violations : List Violation) (rest : Process)
    → AllByRecursion IsPlainViolation violations → IsPlainProcess rest
    → IsPlainProcess (tell_all request violations rest)
all-told request [] rest are plain = plain
all-told request (violation ∷ violations) rest are plain =
    (are.0, λ input. all-told request violations rest are.1 plain)

-- ---- requests that change in what is not printed

tainted-word : (kind : Tainting) (request : Request) → IsWordRequest request
    → IsWordRequest (with_tainting kind request)
tainted-word kind request is = record {
  method = is.method;
  headers = is.headers;
  current = is.current;
  http = is.http;
  first = is.first;
  origin = is.origin;
}

module _ (context : Context) (key : IsWord context.client.key) where
  referred-word : (request : Request) → IsWordRequest request → IsWordRequest (with_referrer context.client request)
  referred-word request is = record {
    method = is.method;
    headers = is.headers;
    current = is.current;
    http = is.http;
    first = is.first;
    origin = is.origin;
  }

  upgraded-word : (request : Request) → IsWordRequest request
      → IsWordRequest (upgraded context.client context.policies request)
  upgraded-word request is =
      let first = secured_where (upgrades context.policies) request in
      where-word (is_upgraded first context.client.origin context.client.top) first
      (where-word (upgrades context.policies) request is)

  -- ---- the end

  plain-ends : (request : Request) (end : Ended) → IsPlainEnded end → IsPlainProcess (ends request end)
  plain-ends request (Over outcome) is = is
  plain-ends request (Reads response) is = (tt, λ input. body-plain request response (body_of input) is)

  plain-finished : PlainThen (finished context)
  plain-finished request (Err reason) is came = came
  plain-finished request (Ok head) is came =
      all-told request (response_violations context.policies request context.client.origin)
      (ends request (ended_under context.policies context.client.origin request head))
      (violations-plain 0 None (map read_policy context.policies) request context.client.origin is.first)
      (plain-ends request (ended_under context.policies context.client.origin request head)
      (ended-plain context.policies context.client.origin request head is))

  plain-clearing : (next : Then) → PlainThen next → PlainThen (clearing context next)
  plain-clearing next goes request (Ok head) is came = goes request (Ok head) is tt
  plain-clearing next goes request (Err reason) is came =
      (clear-words context.client key request is context.now, λ input. goes request (Err reason) is came)

  -- ---- the rules of one level
  module _ (onward : Onward) (next : Then) (on : PlainOnward onward) (goes : PlainThen next) where
    plain-redirected : (request : Request) (head : Head) (where_to : Redirection) → IsWordRequest request
        → IsWordRedirection where_to → IsPlainProcess (redirected onward next request head where_to)
    plain-redirected request head Stays is to = goes request (Ok head) is tt
    plain-redirected request head (Stops reason) is to = goes request (Err reason) is to
    plain-redirected request head (Goes url) is to =
        on next goes (redirected_request request head url) (redirected-word request head url is to.0 to.1)

    plain-judged : (request : Request) (head : Head) (refusal : Option NetError) → IsWordRequest request
        → AreErrors refusal → IsPlainProcess (judged onward next request head refusal)
    plain-judged request head (Some reason) is plain = goes request (Err reason) is plain
    plain-judged request head None is plain =
        plain-redirected request head (redirection request head) is (redirection-word request head is)

    plain-answered : (request : Request) (came : Result Head NetError) → IsWordRequest request → Came came
        → IsPlainProcess (answered onward context next request came)
    plain-answered request (Err reason) is came = goes request (Err reason) is came
    plain-answered request (Ok head) is came =
        ask-where request (note_of context.now request head) (judged onward next request head (refusal_after request head))
        (note-words context.now request head is)
        (plain-judged request head (refusal_after request head) is (after-plain request head))

    plain-read : (request : Request) (sent : Bool) → IsWordRequest request
        → IsPlainProcess (read_head onward context next request sent)
    plain-read request true is =
        (tt, λ input. plain-answered request (head_of input) is (head-came input))
    plain-read request false is = goes request (Err error.LinkFault) is tt

    plain-http : (request : Request) → IsWordRequest request
        → IsPlainProcess (http_fetch onward context next request)
    plain-http request is = (
      word-line (origin_text (origin_of (current_url request))) (place-word (current_url request) is.current),
      λ input. plain-read request (was_sent input) is,
    )

    plain-verdict : (request : Request) (checked : Checked) → IsWordRequest request → IsWordChecked checked
        → IsPlainProcess (preflight_judged onward context next request checked)
    plain-verdict request (Refused reason) is plain = goes request (Err reason) is plain
    plain-verdict request (Pass age methods names) is are = (
      learn-words context.client key request is context.now age methods names are.0 are.1,
      λ input. plain-http request is,
    )

    plain-preflight : (request : Request) (came : Result Head NetError) → IsWordRequest request → Came came
        → IsPlainProcess (preflight_answered onward context next request came)
    plain-preflight request (Err reason) is came = goes request (Err reason) is came
    plain-preflight request (Ok head) is came =
        let checked = verdict request (serialized_request_origin request) (names_of request) head in
        ask-where request (note_of context.now request head) (preflight_judged onward context next request checked)
        (note-words context.now request head is)
        (plain-verdict request checked is (verdict-word request (serialized_request_origin request) (names_of request) head is
        (unsafe-tokens request.headers is.headers)))

    plain-read-preflight : (request : Request) (sent : Bool) → IsWordRequest request
        → IsPlainProcess (read_preflight_head onward context next request sent)
    plain-read-preflight request true is =
        (tt, λ input. plain-preflight request (head_of input) is (head-came input))
    plain-read-preflight request false is = goes request (Err error.LinkFault) is tt

    plain-covered : (request : Request) (covered : Bool) → IsWordRequest request
        → IsPlainProcess (covered_or_not onward context next request covered)
    plain-covered request true is = plain-http request is
    plain-covered request false is = (
      word-line (origin_text (origin_of (current_url request))) (place-word (current_url request) is.current),
      λ input. plain-read-preflight request (was_sent input) is,
    )

  -- a plain error is what a switch refuses by
  abbrev IsPlainSwitch : Switch → Type 0
  IsPlainSwitch (Refuses reason) = IsPlainError reason
  IsPlainSwitch _ = Unit {0}

  no-cors-plain : (kind : RedirectMode) → IsPlainSwitch (no_cors_switch kind)
  no-cors-plain redirect.Follow = tt
  no-cors-plain redirect.Error = tt
  no-cors-plain redirect.Manual = tt

  cors-plain : (request : Request) → IsPlainSwitch (cors_switch request)
  cors-plain request =
      cond_both (needs_preflight request) Preflights (Fetches tainting.Cors) IsPlainSwitch (λ _. tt) (λ _. tt)

  away-plain : (kind : Mode) (request : Request) → IsPlainSwitch (away_switch kind request)
  away-plain mode.SameOrigin request = tt
  away-plain mode.NoCors request = no-cors-plain request.redirect
  away-plain mode.Cors request = cors-plain request
  away-plain mode.Navigate request = cors-plain request

  switch-plain : (request : Request) → IsPlainSwitch (switch_of request)
  switch-plain request =
      cond_both (is_at_home request) (Fetches tainting.Basic) (away_switch request.mode request) IsPlainSwitch (λ _. tt)
      (λ _. away-plain request.mode request)

  -- ---- a level, from its end
  module _ (onward : Onward) (next : Then) (on : PlainOnward onward) (goes : PlainThen next) where
    plain-switched : (request : Request) (switch : Switch) → IsWordRequest request → IsPlainSwitch switch
        → IsPlainProcess (switched_by onward context next request switch)
    plain-switched request (Fetches kind) is plain =
        plain-http onward next on goes (with_tainting kind request) (tainted-word kind request is)
    plain-switched request Preflights is plain =
        let tainted = with_tainting tainting.Cors request in
        let word = tainted-word tainting.Cors request is in (
          covers-words context.client key tainted word context.now,
          λ input. plain-covered onward (clearing context next) on (plain-clearing next goes) tainted (said_yes input) word,
        )
    plain-switched request (Refuses reason) is plain = goes request (Err reason) is plain

    plain-matched : (request : Request) (question : Option Op) → IsWordRequest request
        → IfSome question (λ op. IsTrue (has_words op))
        → IsPlainProcess (matched_by onward context next request question)
    plain-matched request None is words = plain-switched request (switch_of request) is (switch-plain request)
    plain-matched request (Some op) is words = (
      words,
      λ input. let later = secured_where (said_yes input) request in
          plain-switched later (switch_of later) (where-word (said_yes input) request is) (switch-plain later),
    )

    plain-violated : (request : Request) (violations : List Violation) → IsWordRequest request
        → AllByRecursion IsPlainViolation violations
        → IsPlainProcess (unless_violated onward context next request violations)
    plain-violated request [] is are =
        let referred = with_referrer context.client request in
        let word = referred-word request is in
        plain-matched referred (match_of context.now referred) word (match-words context.now referred word)
    plain-violated request (violation ∷ violations) is are =
        all-told request (violation ∷ violations) (next request (Err error.CspRequest)) are
        (goes request (Err error.CspRequest) is tt)

    plain-refused : (request : Request) (refusal : Option NetError) → IsWordRequest request → AreErrors refusal
        → IsPlainProcess (unless_refused onward context next request refusal)
    plain-refused request (Some reason) is plain = goes request (Err reason) is plain
    plain-refused request None is plain =
        plain-violated request (request_violations context.policies request context.client.origin true) is
        (violations-plain 0 (Some true) (map read_policy context.policies) request context.client.origin is.first)

    plain-main : (request : Request) → IsWordRequest request
        → IsPlainProcess (main_fetch onward context next request)
    plain-main request is =
        let upped = upgraded context.client context.policies request in
        let told = tell_all request (request_violations context.policies request context.client.origin false)
        (checked onward context next upped) in
        cond_both (is_http_url (current_url request)) told (next request (Err error.Scheme)) IsPlainProcess
        (λ _. all-told request (request_violations context.policies request context.client.origin false)
        (checked onward context next upped)
        (violations-plain 0 (Some false) (map read_policy context.policies) request context.client.origin is.first)
        (plain-refused upped (refusal_before context.client upped) (upgraded-word request is)
        (before-plain (is_bad_port (current_url upped).port)
        (is_blocked upped context.client.origin context.client.top))))
        (λ _. goes request (Err error.Scheme) is tt)

  plain-again : (left : ℕ) → PlainOnward (again left context)
  plain-again zero next goes request is = goes request (Err error.TooManyRedirects) is tt
  plain-again (suc left) next goes request is =
      plain-main (again left context) next (plain-again left) goes request is

  -- a whole fetch of a request whose current URL is of words where it is http or https
  pub plain-fetch : (request : Request) → (IsTrue (is_http_url (current_url request)) → IsWordRequest request)
      → IsPlainProcess (fetch context request)
  plain-fetch request is =
      let onward = onward_of context request in
      by (is_http_url (current_url request)) refl
    where
      by : (b : Bool) → is_http_url (current_url request) ≡ b → IsPlainProcess (fetch context request)
      by true http = plain-main (onward_of context request) (finished context)
          (plain-again (20 - request.redirects)) plain-finished request (is http)
      by false other = rw other tt
