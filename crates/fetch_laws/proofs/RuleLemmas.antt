-- A fetch costs at most its price, and each of its acts is as it should be: rule by rule.
use Rattle.std.proofs.Common.{ℕ, zero, suc, Bool, true, false, not, ◌+◌, ◌-◌, ◌*◌, ◌≤◌, cond}
use Rattle.std.proofs.Common.{arith, List, [], ◌∷◌, length, map, Some, None, Option, Ok, Err, Result, codes}
use Rattle.std.proofs.lemmas.Grind.{common_steps}
use Rattle.std.proofs.lemmas.List.{length-map}
use Rattle.std.proofs.Math.Nat.{mul-le-mul_right}
use Rattle.std.specs.Prelude.{IfSome, ◌&&◌}
use Rattle.value_lists.specs.declared.extract.Rule.TheVariants.{Digits, Tokens}
use Rattle.value_lists.specs.Extract.{extracted}
use Rattle.value_origins.specs.declared.origin.Origin.{Origin}
use Rattle.value_requests.specs.declared.error.NetError.{NetError}
use Rattle.value_requests.specs.declared.error.NetError.TheVariants.{CspRequest, LinkFault, Scheme, TooManyRedirects}
use Rattle.value_requests.specs.declared.hop.Head.{Head}
use Rattle.value_requests.specs.declared.hop.Hop.{Hop}
use Rattle.value_requests.specs.declared.mode.Tainting.TheVariants as tainting
use Rattle.value_requests.specs.declared.policy.Violation.{Violation}
use Rattle.value_requests.specs.declared.request.Request.{Request}
use Rattle.value_requests.specs.Modes.{is_include}
use Rattle.policy_checks.specs.CorsCheck.{passes_cors_check}
use Rattle.value_requests.specs.Requests.{current_url, is_http_url}
use Rattle.policy_checks.specs.RequestOrigins.{serialized_request_origin}
use Rattle.value_requests.specs.Statuses.{is_ok_status}
use Rattle.book_calls.specs.declared.op.Op.{Op}
use Rattle.policy_csp.specs.declared.compiled.CompiledPolicy.{CompiledPolicy}
use Rattle.policy_csp.specs.Reading.{read_policy}
use Rattle.policy_csp.specs.Violations.{is_asked, is_violated, request_violations}
use Rattle.policy_csp.specs.Violations.{violations_from}
use Rattle.policy_preflight.specs.declared.answer.Checked.{Checked}
use Rattle.policy_preflight.specs.declared.answer.Checked.TheVariants.{Pass, Refused}
use Rattle.policy_preflight.specs.Verdict.{age_of, allows_authorization, allows_method, first_refused, methods_of}
use Rattle.policy_preflight.specs.Verdict.{names_of}
use Rattle.policy_preflight.proofs.LessonLemmas.{age-small}
use Rattle.policy_preflight.specs.Verdict.{unless_refused, verdict, verdict_by, verdict_where}
use Rattle.fetch_acts.specs.declared.act.Act.{Act}
use Rattle.fetch_acts.specs.declared.act.Act.TheVariants.{Ask, Send, ReadHead, ReadBody, Tell}
use Rattle.fetch_acts.specs.Process.{Process}
use Rattle.fetch_acts.specs.Within.{Anything, Prices, Within, price_of}
use Rattle.fetch_acts.proofs.WithinLemmas.{within-if, within-more}
use Rattle.fetch_rules.specs.Blocking.{refusal_before}
use Rattle.fetch_rules.specs.KnownHosts.{match_of, note_of}
use Rattle.fetch_rules.specs.Questions.{clear_of, covers_of, learn_of}
use Rattle.fetch_rules.specs.Referrers.{with_referrer}
use Rattle.fetch_rules.specs.Switch.{switch_of, with_tainting}
use Rattle.fetch_rules.specs.Upgrading.{secured_where, upgraded}
use Rattle.fetch_rules.specs.declared.switch.Switch.{Switch}
use Rattle.fetch_rules.specs.declared.switch.Switch.TheVariants.{Fetches, Preflights, Refuses as Denies}
use Rattle.fetch_answers.specs.declared.answers.Ended.{Ended}
use Rattle.fetch_answers.specs.declared.answers.Ended.TheVariants.{Over, Reads}
use Rattle.fetch_answers.specs.declared.answers.Redirection.{Redirection}
use Rattle.fetch_answers.specs.declared.answers.Redirection.TheVariants.{Goes, Refuses, Stays}
use Rattle.fetch_answers.specs.Endings.{ended_under}
use Rattle.fetch_answers.specs.Following.{redirected_request}
use Rattle.fetch_answers.specs.Judging.{refusal_after}
use Rattle.fetch_answers.specs.Redirects.{redirection}
use Rattle.fetch_definitions.specs.Fetch.{again, ends, fetch, finished, onward_of}
use Rattle.fetch_definitions.specs.HttpFetch.{answered, http_fetch, judged, read_head, redirected}
use Rattle.fetch_definitions.specs.MainFetch.{checked, main_fetch, matched, matched_by, switched, switched_by}
use Rattle.fetch_definitions.specs.MainFetch.{unless_refused as unless_blocked}
use Rattle.fetch_definitions.specs.MainFetch.{unless_violated}
use Rattle.fetch_definitions.specs.PreflightFetch.{clearing, covered_or_not, names_of as unsafe_of, preflight_answered}
use Rattle.fetch_definitions.specs.PreflightFetch.{preflight_judged, read_preflight_head}
use Rattle.fetch_definitions.specs.Then.{Context, Onward, Then, head_of, said_yes, tell_all, then_ask, then_ask_where}
use Rattle.fetch_definitions.specs.Then.{was_sent}
use Rattle.fetch_laws.specs.Prices.{end_price, fetch_price, level_price, report_price}

-- ---- what is owed

-- What P owes to each kind of act that a fetch does, in a context.
pub record Keeps (context : Context) (P : Request → Act → Type 0) : Type 0 where
  pub known : (request : Request) → IfSome (match_of context.now request) (λ op. P request (Ask op))
  pub covers : (request : Request) → P request (Ask (covers_of context.client request context.now))
  pub note : (request : Request) (head : Head) → IfSome (note_of context.now request head) (λ op. P request (Ask op))
  pub learn : (request : Request) (age : ℕ) (methods names : List (List ℕ)) → age ≤ 7200
      → P request (Ask (learn_of context.client request age methods names context.now))
  pub clear : (request : Request) → P request (Ask (clear_of context.client request context.now))
  pub send : (request : Request) (hop : Hop) → P request (Send hop)
  pub head : (request : Request) → P request ReadHead
  pub body : (request : Request) → P request ReadBody
  pub tell : (request : Request) (violation : Violation) → P request (Tell violation)

-- what follows a level costs at most this much
abbrev pub WithinThen : Prices → (Request → Act → Type 0) → ℕ → Then → Type 0
WithinThen prices P most next =
    (request : Request) (came : Result Head NetError)
    → Within (price_of prices) Anything P most (next request came)

-- a redirect costs at most this much more than what follows it
abbrev pub WithinOnward : Prices → (Request → Act → Type 0) → ℕ → Onward → Type 0
WithinOnward prices P more onward =
    (most : ℕ) (next : Then) → WithinThen prices P most next → (request : Request)
    → Within (price_of prices) Anything P (more + most) (onward next request)

-- ---- the age that a preflight's answer teaches

-- a pass is for at most 7,200 seconds
abbrev IsShort : Checked → Type 0
IsShort (Pass age methods names) = age ≤ 7200
IsShort (Refused reason) = Unit {0}

unless-short : (refused : Option (List ℕ)) (age : ℕ) (methods names : List (List ℕ)) → age ≤ 7200
    → IsShort (unless_refused refused (Pass age methods names))
unless-short None age methods names small = small
unless-short (Some name) age methods names small = tt

short-if : (b : Bool) (p q : Checked) → IsShort p → IsShort q → IsShort (cond b p q)
short-if true p q x y = x
short-if false p q x y = y

by-short : (request : Request) (unsafe : List (List ℕ)) (age : ℕ) (methods names : List (List ℕ)) → age ≤ 7200
    → IsShort (verdict_by request unsafe age methods names)
by-short request unsafe age methods names small =
    short-if (not (allows_method request methods)) _ _ tt
    (short-if (not (allows_authorization request names)) _ _ tt
    (unless-short (first_refused request.credentials names unsafe) age methods names small))

where-short : (request : Request) (unsafe : List (List ℕ)) (age : ℕ) (methods names : Option (List (List ℕ)))
    → age ≤ 7200 → IsShort (verdict_where request unsafe age methods names)
where-short request unsafe age None names small = tt
where-short request unsafe age (Some methods) None small = tt
where-short request unsafe age (Some methods) (Some names) small = by-short request unsafe age methods names small

verdict-short : (request : Request) (origin : List ℕ) (unsafe : List (List ℕ)) (head : Head)
    → IsShort (verdict request origin unsafe head)
verdict-short request origin unsafe head =
    short-if (not (passes_cors_check origin (is_include request.credentials) head.headers)) _ _ tt
    (short-if (not (is_ok_status head.status)) _ _ tt
    (where-short request unsafe
    (age_of (extracted Digits (codes "Access-Control-Max-Age") head.headers))
    (methods_of request (extracted Tokens (codes "Access-Control-Allow-Methods") head.headers))
    (names_of (extracted Tokens (codes "Access-Control-Allow-Headers") head.headers))
    (age-small (extracted Digits (codes "Access-Control-Max-Age") head.headers))))

-- ---- at most one violation for each policy

few-if : (b : Bool) (more : Violation) (p : List Violation) (n : ℕ) → length p ≤ n
    → length (cond b (more ∷ p) p) ≤ suc n
few-if true more p n le = grind (arith, common_steps, le)
few-if false more p n le = omega (arith, le)

violations-few : (number : ℕ) (asked : Option Bool) (policies : List CompiledPolicy) (request : Request)
    (document : Origin) → length (violations_from number asked policies request document) ≤ length policies
violations-few number asked [] request document = omega arith
violations-few number asked (policy ∷ policies) request document =
    few-if (is_asked asked policy && is_violated policy request document) _
    (violations_from (number + 1) asked policies request document) (length policies)
    (violations-few (number + 1) asked policies request document)

module _ (prices : Prices) (context : Context) (P : Request → Act → Type 0) (keeps : Keeps context P) where
  -- the process costs at most this much
  abbrev Costs : ℕ → Process → Type 0
  Costs most process = Within (price_of prices) Anything P most process

  -- what follows, within more
  within-next : (more most : ℕ) (next : Then) → WithinThen prices P most next → (request : Request)
      (came : Result Head NetError) → most ≤ more → Costs more (next request came)
  within-next more most next goes request came le =
      within-more (price_of prices) Anything P most more (next request came) (goes request came) le

  -- ---- asking and telling

  within-ask : (most : ℕ) (request : Request) (op : Op) (rest : Process) → P request (Ask op) → Costs most rest
      → Costs (prices.ask + most) (then_ask request op rest)
  within-ask most request op rest is within =
      (is, record { left = most; enough = omega arith; rest = λ input given. within })

  within-ask_where : (most : ℕ) (request : Request) (op : Option Op) (rest : Process)
      → IfSome op (λ asked. P request (Ask asked)) → Costs most rest
      → Costs (prices.ask + most) (then_ask_where request op rest)
  within-ask_where most request None rest is within =
      within-more (price_of prices) Anything P most (prices.ask + most) rest within (omega arith)
  within-ask_where most request (Some op) rest is within = within-ask most request op rest is within

  within-tell_all : (most : ℕ) (request : Request) (violations : List Violation) (rest : Process) → Costs most rest
      → Costs (length violations * prices.tell + most) (tell_all request violations rest)
  within-tell_all most request [] rest within =
      within-more (price_of prices) Anything P most (0 * prices.tell + most) rest within (omega arith)
  within-tell_all most request (violation ∷ violations) rest within = (
    keeps.tell request violation,
    record {
      left = length violations * prices.tell + most;
      enough = omega arith;
      rest = λ input given. within-tell_all most request violations rest within;
    },
  )

  -- violations by the policies of the context
  within-reports : (most : ℕ) (asked : Option Bool) (about request : Request) (rest : Process) → Costs most rest
      → Costs (report_price prices context + most)
      (tell_all request (violations_from 0 asked (map read_policy context.policies) about context.client.origin) rest)
  within-reports most asked about request rest within =
      let violations = violations_from 0 asked (map read_policy context.policies) about context.client.origin in
      let few : length violations ≤ length context.policies =
      omega (
        arith,
        violations-few 0 asked (map read_policy context.policies) about context.client.origin,
        length-map context.policies read_policy,
      ) in
      within-more (price_of prices) Anything P (length violations * prices.tell + most)
      (report_price prices context + most) (tell_all request violations rest)
      (within-tell_all most request violations rest within)
      (omega (arith, mul-le-mul_right prices.tell few))

  -- ---- the end

  within-ends : (request : Request) (end : Ended) → Costs prices.body (ends request end)
  within-ends request (Over outcome) = tt
  within-ends request (Reads response) =
      (keeps.body request, record { left = 0; enough = omega arith; rest = λ input given. tt })

  pub within-finished : WithinThen prices P (end_price prices context) (finished context)
  within-finished request (Err error) = tt
  within-finished request (Ok head) =
      within-reports prices.body None request request
      (ends request (ended_under context.policies context.client.origin request head))
      (within-ends request (ended_under context.policies context.client.origin request head))

  pub within-clearing : (most : ℕ) (next : Then) → WithinThen prices P most next
      → WithinThen prices P (prices.ask + most) (clearing context next)
  within-clearing most next goes request (Ok head) =
      within-next (prices.ask + most) most next goes request (Ok head) (omega arith)
  within-clearing most next goes request (Err error) =
      within-ask most request (clear_of context.client request context.now) (next request (Err error))
      (keeps.clear request) (goes request (Err error))

  -- ---- the rules of one level, where a redirect costs at most `more` more, and what follows at most `most`
  module _ (more most : ℕ) (onward : Onward) (next : Then) (on : WithinOnward prices P more onward)
      (goes : WithinThen prices P most next) where
    -- the answer, with what is noted of it
    abbrev answer_price : ℕ
    answer_price = prices.ask + (more + most)

    -- a hop, its head, and all that follows
    abbrev hop_price : ℕ
    hop_price = prices.send + (prices.head + answer_price)

    -- what follows the head of a preflight's answer
    abbrev verdict_price : ℕ
    verdict_price = prices.ask + (prices.ask + hop_price)

    -- a preflight, its head, and all that follows
    abbrev preflight_price : ℕ
    preflight_price = prices.send + (prices.head + verdict_price)

    within-redirected : (request : Request) (head : Head) (where_to : Redirection)
        → Costs (more + most) (redirected onward next request head where_to)
    within-redirected request head Stays = within-next (more + most) most next goes request (Ok head) (omega arith)
    within-redirected request head (Refuses error) =
        within-next (more + most) most next goes request (Err error) (omega arith)
    within-redirected request head (Goes url) = on most next goes (redirected_request request head url)

    within-judged : (request : Request) (head : Head) (refusal : Option NetError)
        → Costs (more + most) (judged onward next request head refusal)
    within-judged request head (Some error) =
        within-next (more + most) most next goes request (Err error) (omega arith)
    within-judged request head None = within-redirected request head (redirection request head)

    within-answered : (request : Request) (came : Result Head NetError)
        → Costs answer_price (answered onward context next request came)
    within-answered request (Err error) = within-next answer_price most next goes request (Err error) (omega arith)
    within-answered request (Ok head) =
        within-ask_where (more + most) request (note_of context.now request head)
        (judged onward next request head (refusal_after request head)) (keeps.note request head)
        (within-judged request head (refusal_after request head))

    within-read_head : (request : Request) (sent : Bool)
        → Costs (prices.head + answer_price) (read_head onward context next request sent)
    within-read_head request true = (
      keeps.head request,
      record {
        left = answer_price;
        enough = omega arith;
        rest = λ input given. within-answered request (head_of input);
      },
    )
    within-read_head request false =
        within-next (prices.head + answer_price) most next goes request (Err LinkFault) (omega arith)

    within-http_fetch : (request : Request) → Costs hop_price (http_fetch onward context next request)
    within-http_fetch request = (
      keeps.send request _,
      record {
        left = prices.head + answer_price;
        enough = omega arith;
        rest = λ input given. within-read_head request (was_sent input);
      },
    )

    within-preflight_judged : (request : Request) (checked : Checked) → IsShort checked
        → Costs (prices.ask + hop_price) (preflight_judged onward context next request checked)
    within-preflight_judged request (Refused error) short =
        within-next (prices.ask + hop_price) most next goes request (Err error) (omega arith)
    within-preflight_judged request (Pass age methods names) short =
        within-ask hop_price request (learn_of context.client request age methods names context.now)
        (http_fetch onward context next request) (keeps.learn request age methods names short)
        (within-http_fetch request)

    within-preflight_answered : (request : Request) (came : Result Head NetError)
        → Costs verdict_price (preflight_answered onward context next request came)
    within-preflight_answered request (Err error) =
        within-next verdict_price most next goes request (Err error) (omega arith)
    within-preflight_answered request (Ok head) =
        let checked = verdict request (serialized_request_origin request) (unsafe_of request) head in
        within-ask_where (prices.ask + hop_price) request (note_of context.now request head)
        (preflight_judged onward context next request checked) (keeps.note request head)
        (within-preflight_judged request checked
        (verdict-short request (serialized_request_origin request) (unsafe_of request) head))

    within-read_preflight_head : (request : Request) (sent : Bool)
        → Costs (prices.head + verdict_price) (read_preflight_head onward context next request sent)
    within-read_preflight_head request true = (
      keeps.head request,
      record {
        left = verdict_price;
        enough = omega arith;
        rest = λ input given. within-preflight_answered request (head_of input);
      },
    )
    within-read_preflight_head request false =
        within-next (prices.head + verdict_price) most next goes request (Err LinkFault) (omega arith)

    within-covered : (request : Request) (covered : Bool)
        → Costs preflight_price (covered_or_not onward context next request covered)
    within-covered request true =
        within-more (price_of prices) Anything P hop_price preflight_price (http_fetch onward context next request)
        (within-http_fetch request) (omega arith)
    within-covered request false = (
      keeps.send request _,
      record {
        left = prices.head + verdict_price;
        enough = omega arith;
        rest = λ input given. within-read_preflight_head request (was_sent input);
      },
    )

  -- what a level costs after its violations, and all that follows
  abbrev matched_price : ℕ → ℕ → ℕ
  matched_price more most = 6 * prices.ask + 2 * prices.send + 2 * prices.head + (more + most)

  -- the same after its first question
  abbrev switched_price : ℕ → ℕ → ℕ
  switched_price more most = 5 * prices.ask + 2 * prices.send + 2 * prices.head + (more + most)

  within-switched : (more most : ℕ) (onward : Onward) (next : Then) → WithinOnward prices P more onward
      → WithinThen prices P most next → (request : Request) (switch : Switch)
      → Costs (switched_price more most) (switched_by onward context next request switch)
  within-switched more most onward next on goes request (Fetches kind) =
      within-more (price_of prices) Anything P (hop_price more most onward next on goes) (switched_price more most)
      (http_fetch onward context next (with_tainting kind request))
      (within-http_fetch more most onward next on goes (with_tainting kind request)) (omega arith)
  within-switched more most onward next on goes request Preflights =
      let tainted = with_tainting tainting.Cors request in
      let cleared = within-clearing most next goes in (
        keeps.covers tainted,
        record {
          left = preflight_price more (prices.ask + most) onward (clearing context next) on cleared;
          enough = omega arith;
          rest = λ input given.
              within-covered more (prices.ask + most) onward (clearing context next) on cleared tainted (said_yes
              input);
        },
      )
  within-switched more most onward next on goes request (Denies error) =
      within-next (switched_price more most) most next goes request (Err error) (omega arith)

  within-matched_by : (more most : ℕ) (onward : Onward) (next : Then) → WithinOnward prices P more onward
      → WithinThen prices P most next → (request : Request) (question : Option Op)
      → IfSome question (λ op. P request (Ask op))
      → Costs (matched_price more most) (matched_by onward context next request question)
  within-matched_by more most onward next on goes request None is =
      within-more (price_of prices) Anything P (switched_price more most) (matched_price more most)
      (switched onward context next request)
      (within-switched more most onward next on goes request (switch_of request)) (omega arith)
  within-matched_by more most onward next on goes request (Some op) is = (
    is,
    record {
      left = switched_price more most;
      enough = omega arith;
      rest = λ input given.
          within-switched more most onward next on goes (secured_where (said_yes input) request)
          (switch_of (secured_where (said_yes input) request));
    },
  )

  within-unless_violated : (more most : ℕ) (onward : Onward) (next : Then) → WithinOnward prices P more onward
      → WithinThen prices P most next → (request : Request) (violations : List Violation)
      → length violations ≤ length context.policies
      → Costs (report_price prices context + matched_price more most)
      (unless_violated onward context next request violations)
  within-unless_violated more most onward next on goes request [] few =
      let referred = with_referrer context.client request in
      within-more (price_of prices) Anything P (matched_price more most)
      (report_price prices context + matched_price more most) (matched onward context next referred)
      (within-matched_by more most onward next on goes referred (match_of context.now referred) (keeps.known referred))
      (omega arith)
  within-unless_violated more most onward next on goes request (violation ∷ violations) few =
      within-more (price_of prices) Anything P (length (violation ∷ violations) * prices.tell + most)
      (report_price prices context + matched_price more most)
      (tell_all request (violation ∷ violations) (next request (Err CspRequest)))
      (within-tell_all most request (violation ∷ violations) (next request (Err CspRequest))
      (goes request (Err CspRequest)))
      (omega (arith, mul-le-mul_right prices.tell few))

  within-unless_blocked : (more most : ℕ) (onward : Onward) (next : Then) → WithinOnward prices P more onward
      → WithinThen prices P most next → (request : Request) (refusal : Option NetError)
      → Costs (report_price prices context + matched_price more most)
      (unless_blocked onward context next request refusal)
  within-unless_blocked more most onward next on goes request (Some error) =
      within-next (report_price prices context + matched_price more most) most next goes request (Err error)
      (omega arith)
  within-unless_blocked more most onward next on goes request None =
      within-unless_violated more most onward next on goes request
      (request_violations context.policies request context.client.origin true)
      (omega (
        arith,
        violations-few 0 (Some true) (map read_policy context.policies) request context.client.origin,
        length-map context.policies read_policy,
      ))

  within-main_fetch : (more most : ℕ) (onward : Onward) (next : Then) → WithinOnward prices P more onward
      → WithinThen prices P most next → (request : Request)
      → Costs (level_price prices context + (more + most)) (main_fetch onward context next request)
  within-main_fetch more most onward next on goes request =
      let price = report_price prices context + (report_price prices context + matched_price more most) in
      let upped = upgraded context.client context.policies request in
      within-more (price_of prices) Anything P price (level_price prices context + (more + most))
      (main_fetch onward context next request)
      (within-if (price_of prices) Anything P (is_http_url (current_url request)) price
      (tell_all request (request_violations context.policies request context.client.origin false)
      (checked onward context next upped))
      (next request (Err Scheme))
      (within-reports (report_price prices context + matched_price more most) (Some false) request request
      (checked onward context next upped)
      (within-unless_blocked more most onward next on goes upped (refusal_before context.client upped)))
      (within-next price most next goes request (Err Scheme) (omega arith)))
      (omega arith)

  within-again : (left : ℕ) → WithinOnward prices P (left * level_price prices context) (again left context)
  within-again zero most next goes request =
      within-next (0 * level_price prices context + most) most next goes request (Err TooManyRedirects) (omega arith)
  within-again (suc left) most next goes request =
      within-more (price_of prices) Anything P
      (level_price prices context + (left * level_price prices context + most))
      (suc left * level_price prices context + most) (again (suc left) context next request)
      (within-main_fetch (left * level_price prices context) most (again left context) next (within-again left) goes
      request)
      (omega arith)

  -- a whole fetch
  pub within-fetch : (request : Request) → Costs (fetch_price prices context request) (fetch context request)
  within-fetch request =
      let left = 20 - request.redirects in
      within-more (price_of prices) Anything P
      (level_price prices context + (left * level_price prices context + end_price prices context))
      (fetch_price prices context request) (fetch context request)
      (within-main_fetch (left * level_price prices context) (end_price prices context) (onward_of context request)
      (finished context) (within-again left) within-finished request)
      (omega arith)
