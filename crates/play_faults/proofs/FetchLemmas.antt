-- A fetch shows how the link failed in it: rule by rule.
use Rattle.std.proofs.Common.{◌≡◌, ℕ, zero, suc, Bool, true, false, not, cond, List, [], ◌∷◌, length, refl}
use Rattle.std.proofs.Common.{ap, sym, subst, ◌∙◌, ◌-◌, IsTrue, arith, Some, None, Option, Ok, Err, Result, codes}
use Rattle.std.proofs.lemmas.Grind.{common_steps}
use Rattle.std.specs.Option.{option_or}
use Rattle.std.specs.Prelude.{IfSome, ◌==◌, ◌||◌}
use Rattle.url.specs.Parts.{Parts}
use Rattle.value_lists.specs.declared.extract.Extracted.{Extracted}
use Rattle.value_lists.specs.declared.extract.Extracted.TheVariants.{Absent, Failure as Broken, Items}
use Rattle.value_lists.specs.declared.extract.Rule.TheVariants.{Digits, Single, Tokens}
use Rattle.value_headers.specs.declared.headers.Header.{Header}
use Rattle.value_lists.specs.Extract.{extracted}
use Rattle.value_requests.specs.declared.client.Client.{Client}
use Rattle.value_requests.specs.declared.error.NetError.{NetError}
use Rattle.value_requests.specs.declared.error.NetError.TheVariants as error
use Rattle.value_requests.specs.declared.hop.Head.{Head}
use Rattle.value_requests.specs.declared.hop.Hop.{Hop}
use Rattle.value_requests.specs.declared.mode.Mode.{Mode}
use Rattle.value_requests.specs.declared.mode.Mode.TheVariants as mode
use Rattle.value_requests.specs.declared.mode.RedirectMode.{RedirectMode}
use Rattle.value_requests.specs.declared.mode.RedirectMode.TheVariants as redirect
use Rattle.value_requests.specs.declared.mode.Tainting.{Tainting}
use Rattle.value_requests.specs.declared.mode.Tainting.TheVariants as tainting
use Rattle.value_requests.specs.declared.policy.Destination.{Destination}
use Rattle.value_requests.specs.declared.policy.Violation.{Violation}
use Rattle.value_requests.specs.declared.request.Request.{Request}
use Rattle.value_requests.specs.declared.response.BodyEnd.{BodyEnd}
use Rattle.value_requests.specs.declared.response.BodyEnd.TheVariants as body
use Rattle.value_requests.specs.declared.response.Outcome.{Outcome}
use Rattle.value_requests.specs.declared.response.Outcome.TheVariants as outcome
use Rattle.value_requests.specs.declared.response.Response.{Response}
use Rattle.value_requests.specs.Modes.{is_include}
use Rattle.policy_checks.specs.CorsCheck.{passes_cors_check}
use Rattle.value_requests.specs.Requests.{current_url, is_http_url, most_redirects}
use Rattle.policy_checks.specs.RequestOrigins.{serialized_request_origin}
use Rattle.value_requests.specs.Statuses.{is_ok_status}
use Rattle.policy_checks.specs.Ports.{is_bad_port}
use Rattle.book_calls.specs.declared.op.Op.{Op}
use Rattle.policy_csp.specs.Violations.{has_enforced, request_violations, response_violations}
use Rattle.policy_preflight.specs.declared.answer.Checked.{Checked}
use Rattle.policy_preflight.specs.declared.answer.Checked.TheVariants.{Pass, Refused}
use Rattle.policy_preflight.specs.Preflight.{preflight_of}
use Rattle.policy_preflight.specs.Verdict.{age_of, allows_authorization, allows_method, first_refused, methods_of}
use Rattle.policy_preflight.specs.Verdict.{names_of as header_names_of, unless_refused, verdict, verdict_by}
use Rattle.policy_preflight.specs.Verdict.{verdict_where}
use Rattle.policy_filter.specs.Blocks.{is_nosniff_blocked, is_type_blocked}
use Rattle.policy_filter.specs.Filtered.{filtered, filtered_by}
use Rattle.policy_filter.specs.Laws.{is_fetch}
use Rattle.fetch_requests.specs.Heads.{hop_of}
use Rattle.fetch_acts.specs.declared.act.Act.TheVariants.{Ask, Send, ReadHead, ReadBody, Tell}
use Rattle.fetch_acts.specs.declared.act.Input.{Input}
use Rattle.fetch_acts.specs.declared.act.Input.TheVariants.{BodyIs, Fault, HeadBad, HeadIs, HeadLong, Replied, Sent}
use Rattle.fetch_acts.specs.declared.act.Input.TheVariants.{Told}
use Rattle.fetch_acts.specs.Process.{Process, act, ended, fits}
use Rattle.fetch_wire.specs.Exchanges.{is_fault}
use Rattle.fetch_rules.specs.Blocking.{refusal_before}
use Rattle.fetch_rules.specs.KnownHosts.{match_of, note_of}
use Rattle.fetch_rules.specs.Questions.{clear_of, covers_of, learn_of}
use Rattle.fetch_rules.specs.Referrers.{with_referrer}
use Rattle.fetch_rules.specs.Switch.{away_switch, cors_switch, is_at_home, needs_preflight, no_cors_switch}
use Rattle.fetch_rules.specs.Switch.{switch_of}
use Rattle.fetch_rules.specs.Switch.{with_tainting}
use Rattle.fetch_rules.specs.Upgrading.{secured_where, upgraded}
use Rattle.fetch_rules.specs.declared.switch.Switch.{Switch}
use Rattle.fetch_rules.specs.declared.switch.Switch.TheVariants as switch
use Rattle.policy_checks.specs.Mixed.{is_blocked}
use Rattle.fetch_answers.specs.declared.answers.Ended.{Ended}
use Rattle.fetch_answers.specs.declared.answers.Ended.TheVariants.{Over, Reads}
use Rattle.fetch_answers.specs.declared.answers.Redirection.{Redirection}
use Rattle.fetch_answers.specs.declared.answers.Redirection.TheVariants.{Goes, Refuses, Stays}
use Rattle.fetch_answers.specs.Bodies.{is_coded}
use Rattle.fetch_answers.specs.Endings.{after_body as outcome_with, block_error, ended as ended_with, ended_by}
use Rattle.fetch_answers.specs.Endings.{ended_read}
use Rattle.fetch_answers.specs.Endings.{ended_unblocked, ended_under, handed_over, is_accepted, is_bodiless}
use Rattle.fetch_answers.specs.Endings.{is_matched}
use Rattle.fetch_answers.specs.Endings.{is_read, is_trusting, response_of, type_error}
use Rattle.fetch_answers.specs.Following.{redirected_request}
use Rattle.fetch_answers.specs.Judging.{check_error, is_to_follow, refusal_after}
use Rattle.std.specs.Bool.{then_some}
use Rattle.policy_filter.specs.Views.{is_error}
use Rattle.fetch_answers.specs.Redirects.{extracted_url, redirection, redirection_by}
use Rattle.fetch_answers.specs.Redirects.{redirection_where, shows_credentials}
use Rattle.fetch_definitions.specs.Fetch.{after_body, again, ends, fetch, finished, onward_of}
use Rattle.fetch_definitions.specs.HttpFetch.{after_head, after_sent, answered, http_fetch, judged, redirected}
use Rattle.fetch_definitions.specs.MainFetch.{after_match, checked, main_fetch, matched_by, switched_by}
use Rattle.fetch_definitions.specs.MainFetch.{unless_refused as unless_blocked}
use Rattle.fetch_definitions.specs.MainFetch.{unless_violated}
use Rattle.fetch_definitions.specs.PreflightFetch.{after_covers, after_preflight_head, after_preflight_sent, clearing}
use Rattle.fetch_definitions.specs.PreflightFetch.{covered_or_not, names_of, preflight_answered, preflight_judged}
use Rattle.fetch_definitions.specs.Then.{Context, Onward, Then, said_yes, tell_all, then_ask_where}
use Rattle.play_faults.specs.Failures.{Failure, IsBrokenAt, IsOnlyOne, ShowsFailure, broken, is_broken, owed_after}
use Rattle.play_faults.specs.Failures.{tells_fault, unanswered}

-- what is false is not true
never : {A : Type 0} → false ≡ true → A
never untrue = let bad : ⊥ = cc untrue in absurd bad

-- ---- a process

-- where the link has failed so, or not, it does not fail again before the end, and the outcome shows it
abbrev pub Shows : Option Failure → Process → Type 0
Shows failure (ended came) = ShowsFailure failure came
Shows failure (act request first after) =
    (input : Input) → IsTrue (fits first input)
    → IsOnlyOne failure input × Shows (owed_after request input failure) (after input)

shows-if : (b : Bool) (failure : Option Failure) (p q : Process) → Shows failure p → Shows failure q
    → Shows failure (cond b p q)
shows-if true failure p q x y = x
shows-if false failure p q x y = y

only-quiet : (failure : Option Failure) (input : Input) → is_fault input ≡ false → IsOnlyOne failure input
only-quiet None input quiet = tt
only-quiet (Some before) input quiet = quiet

-- ---- acts

-- the book cannot fail the link
shows-ask : (failure : Option Failure) (request : Request) (op : Op) (after : Input → Process)
    → ((input : Input) → Shows failure (after input)) → Shows failure (act request (Ask op) after)
shows-ask failure request op after goes (Replied reply) fit =
    (only-quiet failure (Replied reply) refl, goes (Replied reply))
shows-ask failure request op after goes input fit = never fit

shows-tell : (failure : Option Failure) (request : Request) (violation : Violation) (after : Input → Process)
    → ((input : Input) → Shows failure (after input)) → Shows failure (act request (Tell violation) after)
shows-tell failure request violation after goes Told fit = (only-quiet failure Told refl, goes Told)
shows-tell failure request violation after goes input fit = never fit

shows-send : (request : Request) (hop : Hop) (after : Input → Process) → Shows None (after Sent)
    → Shows (Some unanswered) (after Fault) → Shows None (act request (Send hop) after)
shows-send request hop after sent failed Sent fit = (tt, sent)
shows-send request hop after sent failed Fault fit = (tt, failed)
shows-send request hop after sent failed input fit = never fit

shows-head : (request : Request) (after : Input → Process) → ((head : Head) → Shows None (after (HeadIs head)))
    → Shows None (after HeadBad) → Shows None (after HeadLong) → Shows (Some unanswered) (after Fault)
    → Shows None (act request ReadHead after)
shows-head request after is bad long failed (HeadIs head) fit = (tt, is head)
shows-head request after is bad long failed HeadBad fit = (tt, bad)
shows-head request after is bad long failed HeadLong fit = (tt, long)
shows-head request after is bad long failed Fault fit = (tt, failed)
shows-head request after is bad long failed input fit = never fit

shows-ask_where : (request : Request) (op : Option Op) (rest : Process) → Shows None rest
    → Shows None (then_ask_where request op rest)
shows-ask_where request None rest goes = goes
shows-ask_where request (Some op) rest goes = shows-ask None request op (λ input. rest) (λ input. goes)

shows-tell_all : (request : Request) (violations : List Violation) (rest : Process) → Shows None rest
    → Shows None (tell_all request violations rest)
shows-tell_all request [] rest goes = goes
shows-tell_all request (violation ∷ violations) rest goes =
    shows-tell None request violation (λ input. tell_all request violations rest)
    (λ input. shows-tell_all request violations rest goes)

-- ---- errors

-- the failure that a network error shows
abbrev failure_of : NetError → Option Failure
failure_of error.LinkFault = Some unanswered
failure_of reason = None

-- it is not that of the link
abbrev IsOther : NetError → Type 0
IsOther reason = failure_of reason ≡ None

abbrev AreOther : Option NetError → Type 0
AreOther reason = IfSome reason IsOther

other-where : (b : Bool) (reason : NetError) → IsOther reason → AreOther (then_some b reason)
other-where true reason is = is
other-where false reason is = tt

other-or : (a b : Option NetError) → AreOther a → AreOther b → AreOther (option_or a b)
other-or (Some reason) b x y = x
other-or None b x y = y

other-if : (b : Bool) (p q : Option NetError) → AreOther p → AreOther q → AreOther (cond b p q)
other-if true p q x y = x
other-if false p q x y = y

other-before : (client : Client) (request : Request) → AreOther (refusal_before client request)
other-before client request =
    other-if (is_bad_port (current_url request).port) _ _ refl
    (other-if (is_blocked request client.origin client.top) _ _ refl tt)

other-check : (kind : Tainting) (request : Request) (headers : List Header)
    → AreOther (check_error kind request headers)
other-check tainting.Basic request headers = tt
other-check tainting.Cors request headers = other-where _ error.CorsCheck refl
other-check tainting.Opaque request headers = other-where _ error.Corp refl

other-after : (request : Request) (head : Head) → AreOther (refusal_after request head)
other-after request head =
    other-or (check_error request.tainting request head.headers)
    (then_some (is_error request head) error.RedirectMode) (other-check request.tainting request head.headers)
    (other-where (is_error request head) error.RedirectMode refl)

other-type : (kind : Destination) (headers : List Header) → AreOther (type_error kind headers)
other-type kind headers =
    other-if (is_type_blocked kind headers) _ _ refl (other-if (is_nosniff_blocked kind headers) _ _ refl tt)

-- a redirect
abbrev IsOtherRedirection : Redirection → Type 0
IsOtherRedirection Stays = Unit {0}
IsOtherRedirection (Refuses reason) = IsOther reason
IsOtherRedirection (Goes url) = Unit {0}

redirection-if : (b : Bool) (p q : Redirection) → IsOtherRedirection p → IsOtherRedirection q
    → IsOtherRedirection (cond b p q)
redirection-if true p q x y = x
redirection-if false p q x y = y

redirection-url : (request : Request) (url : Option Parts) → IsOtherRedirection (redirection_where request url)
redirection-url request None = refl
redirection-url request (Some url) =
    redirection-if (not (is_http_url url)) _ _ refl
    (redirection-if (request.redirects == most_redirects) _ _ refl
    (redirection-if (shows_credentials request url) _ _ refl tt))

redirection-found : (request : Request) (found : Extracted) → IsOtherRedirection (redirection_by request found)
redirection-found request Absent = tt
redirection-found request Broken = redirection-url request (extracted_url (current_url request) Broken)
redirection-found request (Items items) = redirection-url request (extracted_url (current_url request) (Items items))

redirection-other : (request : Request) (head : Head) → IsOtherRedirection (redirection request head)
redirection-other request head =
    redirection-if (is_to_follow request head) _ _
    (redirection-found request (extracted Single (codes "Location") head.headers)) tt

-- a preflight
abbrev IsOtherChecked : Checked → Type 0
IsOtherChecked (Pass age methods names) = Unit {0}
IsOtherChecked (Refused reason) = IsOther reason

checked-if : (b : Bool) (p q : Checked) → IsOtherChecked p → IsOtherChecked q → IsOtherChecked (cond b p q)
checked-if true p q x y = x
checked-if false p q x y = y

checked-unless : (refused : Option (List ℕ)) (age : ℕ) (methods names : List (List ℕ))
    → IsOtherChecked (unless_refused refused (Pass age methods names))
checked-unless None age methods names = tt
checked-unless (Some name) age methods names = refl

checked-by : (request : Request) (unsafe : List (List ℕ)) (age : ℕ) (methods names : List (List ℕ))
    → IsOtherChecked (verdict_by request unsafe age methods names)
checked-by request unsafe age methods names =
    checked-if (not (allows_method request methods)) _ _ refl
    (checked-if (not (allows_authorization request names)) _ _ refl
    (checked-unless (first_refused request.credentials names unsafe) age methods names))

checked-where : (request : Request) (unsafe : List (List ℕ)) (age : ℕ) (methods names : Option (List (List ℕ)))
    → IsOtherChecked (verdict_where request unsafe age methods names)
checked-where request unsafe age None names = refl
checked-where request unsafe age (Some methods) None = refl
checked-where request unsafe age (Some methods) (Some names) = checked-by request unsafe age methods names

checked-other : (request : Request) (origin : List ℕ) (unsafe : List (List ℕ)) (head : Head)
    → IsOtherChecked (verdict request origin unsafe head)
checked-other request origin unsafe head =
    checked-if (not (passes_cors_check origin (is_include request.credentials) head.headers)) _ _ refl
    (checked-if (not (is_ok_status head.status)) _ _ refl
    (checked-where request unsafe
    (age_of (extracted Digits (codes "Access-Control-Max-Age") head.headers))
    (methods_of request (extracted Tokens (codes "Access-Control-Allow-Methods") head.headers))
    (header_names_of (extracted Tokens (codes "Access-Control-Allow-Headers") head.headers))))

-- the switch of main fetch
abbrev IsOtherSwitch : Switch → Type 0
IsOtherSwitch (switch.Fetches kind) = Unit {0}
IsOtherSwitch switch.Preflights = Unit {0}
IsOtherSwitch (switch.Refuses reason) = IsOther reason

switch-if : (b : Bool) (p q : Switch) → IsOtherSwitch p → IsOtherSwitch q → IsOtherSwitch (cond b p q)
switch-if true p q x y = x
switch-if false p q x y = y

switch-no_cors : (how : RedirectMode) → IsOtherSwitch (no_cors_switch how)
switch-no_cors redirect.Follow = tt
switch-no_cors how = refl

switch-cors : (request : Request) → IsOtherSwitch (cors_switch request)
switch-cors request = switch-if (needs_preflight request) _ _ tt tt

switch-away : (how : Mode) (request : Request) → IsOtherSwitch (away_switch how request)
switch-away mode.SameOrigin request = refl
switch-away mode.NoCors request = switch-no_cors request.redirect
switch-away how request = switch-cors request

switch-other : (request : Request) → IsOtherSwitch (switch_of request)
switch-other request = switch-if (is_at_home request) _ _ tt (switch-away request.mode request)

-- ---- the end

quiet-if : (b : Bool) (p q : Outcome) → tells_fault p ≡ false → tells_fault q ≡ false → tells_fault (cond b p q) ≡ false
quiet-if true p q x y = x
quiet-if false p q x y = y

handed-quiet : (request : Request) (response : Response) → is_broken response.body ≡ false
    → tells_fault (handed_over request response) ≡ false
handed-quiet request response quiet = quiet-if (is_fetch request.destination) _ _ quiet refl

-- a response has no body before it is read
by-null : (kind : Tainting) (request : Request) (head : Head) → is_broken (filtered_by kind request head).body ≡ false
by-null tainting.Basic request head = refl
by-null tainting.Cors request head = refl
by-null tainting.Opaque request head = refl

filtered-null : (request : Request) (head : Head) (manual : Bool)
    → is_broken (filtered request head manual).body ≡ false
filtered-null request head true = refl
filtered-null request head false = by-null request.tainting request head

-- it is over without a failure, or the body is to be read
abbrev EndsQuiet : Request → Ended → Type 0
EndsQuiet request (Over came) = tells_fault came ≡ false
EndsQuiet request (Reads response) = is_read request ≡ true

ends-if : (request : Request) (b : Bool) (p q : Ended) → EndsQuiet request p → EndsQuiet request q
    → EndsQuiet request (cond b p q)
ends-if request true p q x y = x
ends-if request false p q x y = y

ends-read : (request : Request) (head : Head) (b : Bool) → is_read request ≡ b
    → EndsQuiet request (cond (not b) (Over outcome.Loaded) (ended_read request head))
ends-read request head true is = ends-if request (is_coded head) _ _ refl is
ends-read request head false is = refl

ends-unblocked : (request : Request) (head : Head) → EndsQuiet request (ended_unblocked request head)
ends-unblocked request head =
    ends-if request (is_bodiless request head) _ _
    (quiet-if (is_trusting request) _ _
    (handed-quiet request (response_of request head) (filtered-null request head _)) refl)
    (ends-read request head (is_read request) refl)

-- the outcome of another error tells no failure
error-shows : (reason : NetError) → ShowsFailure (failure_of reason) (outcome.Error reason)
error-shows error.LinkFault = refl
error-shows reason = refl

other-quiet : (reason : NetError) → IsOther reason → tells_fault (outcome.Error reason) ≡ false
other-quiet reason is =
    subst (λ (failure : Option Failure). ShowsFailure failure (outcome.Error reason)) is (error-shows reason)

ends-by : (reason : Option NetError) (request : Request) (head : Head) → AreOther reason
    → EndsQuiet request (ended_by reason request head)
ends-by None request head is = ends-unblocked request head
ends-by (Some reason) request head is = other-quiet reason is

ends-with : (blocked : Bool) (request : Request) (head : Head) → EndsQuiet request (ended_with blocked request head)
ends-with blocked request head =
    ends-by (block_error blocked request.destination head.headers) request head
    (other-if blocked (Some error.CspResponse) (type_error request.destination head.headers) refl
    (other-type request.destination head.headers))

-- ---- the body

fetches : (is trusts : Bool) → (is || not trusts) ≡ true → trusts ≡ true → is ≡ true
fetches true trusts read trusting = refl
fetches false true read trusting = never read
fetches false false read trusting = never trusting

accepted-broken : (trusts matched is : Bool) (response : Response) (n : ℕ) → trusts ≡ true → is ≡ true
    → response.body ≡ body.Fault n
    → IsBrokenAt n
    (cond (trusts || matched) (cond is (outcome.Answer response) outcome.Loaded) (outcome.Error error.Integrity))
accepted-broken true matched true response n trusting reads broke = broke
accepted-broken true matched false response n trusting reads broke = never reads
accepted-broken false matched is response n trusting reads broke = never trusting

refused-broken : (trusts : Bool) (p q : Outcome) → trusts ≡ false → cond (trusts || false) p q ≡ q
refused-broken true p q refuses = never (sym refuses)
refused-broken false p q refuses = refl

not-empty : (byte : ℕ) (text : List ℕ) → (length (byte ∷ text) == 0) ≡ false
not-empty byte text = grind (arith, common_steps)

broken-shows : (request : Request) (response : Response) (n : ℕ) (text : List ℕ) → request.integrity ≡ text
    → is_read request ≡ true
    → ShowsFailure (Some (broken text n)) (outcome_with request response (body.Fault n))
broken-shows request response n [] is read =
    let trusts : is_trusting request ≡ true = ap (λ (l : List ℕ). length l == 0) is in
    accepted-broken (is_trusting request) (is_matched request.integrity (body.Fault n)) (is_fetch request.destination)
    (record response { body = body.Fault n }) n trusts
    (fetches (is_fetch request.destination) (is_trusting request) read trusts) refl
broken-shows request response n (byte ∷ text) is read =
    let trusts : is_trusting request ≡ false = ap (λ (l : List ℕ). length l == 0) is ∙ not-empty byte text in
    refused-broken (is_trusting request) (handed_over request (record response { body = body.Fault n }))
    (outcome.Error error.Integrity) trusts

whole-quiet : (request : Request) (response : Response) (end : BodyEnd) → is_broken end ≡ false
    → tells_fault (outcome_with request response end) ≡ false
whole-quiet request response end quiet =
    quiet-if (is_accepted request end) _ _ (handed-quiet request (record response { body = end }) quiet) refl

shows-body : (request : Request) (response : Response) → is_read request ≡ true
    → Shows None (act request ReadBody (after_body request response))
shows-body request response read (BodyIs (body.Fault n)) fit =
    (tt, broken-shows request response n request.integrity refl read)
shows-body request response read (BodyIs end) fit = (tt, whole-quiet request response end refl)
shows-body request response read input fit = never fit

shows-ends : (request : Request) (end : Ended) → EndsQuiet request end → Shows None (ends request end)
shows-ends request (Over came) quiet = quiet
shows-ends request (Reads response) read = shows-body request response read

-- ---- what follows a level

-- the failure that a level came to
abbrev failure_at : Result Head NetError → Option Failure
failure_at (Ok head) = None
failure_at (Err reason) = failure_of reason

-- what follows shows the failure that a level came to
abbrev ShowsThen : Then → Type 0
ShowsThen next = (request : Request) (came : Result Head NetError) → Shows (failure_at came) (next request came)

abbrev ShowsOnward : Onward → Type 0
ShowsOnward onward = (next : Then) → ShowsThen next → (request : Request) → Shows None (onward next request)

-- a rule has refused
shows-refused : (next : Then) → ShowsThen next → (request : Request) (reason : NetError) → IsOther reason
    → Shows None (next request (Err reason))
shows-refused next goes request reason is =
    subst (λ (failure : Option Failure). Shows failure (next request (Err reason))) is (goes request (Err reason))

shows-finished : (context : Context) → ShowsThen (finished context)
shows-finished context request (Err reason) = error-shows reason
shows-finished context request (Ok head) =
    let violations = response_violations context.policies request context.client.origin in
    shows-tell_all request violations (ends request (ended_under context.policies context.client.origin request head))
    (shows-ends request (ended_under context.policies context.client.origin request head)
    (ends-with (has_enforced violations) request head))

shows-clearing : (context : Context) (next : Then) → ShowsThen next → ShowsThen (clearing context next)
shows-clearing context next goes request (Ok head) = goes request (Ok head)
shows-clearing context next goes request (Err reason) =
    shows-ask (failure_of reason) request (clear_of context.client request context.now)
    (λ input. next request (Err reason)) (λ input. goes request (Err reason))

-- ---- the rules of one level
module _ (context : Context) (onward : Onward) (next : Then) (on : ShowsOnward onward) (goes : ShowsThen next) where
  shows-redirected : (request : Request) (head : Head) (where_to : Redirection) → IsOtherRedirection where_to
      → Shows None (redirected onward next request head where_to)
  shows-redirected request head Stays is = goes request (Ok head)
  shows-redirected request head (Refuses reason) is = shows-refused next goes request reason is
  shows-redirected request head (Goes url) is = on next goes (redirected_request request head url)

  shows-judged : (request : Request) (head : Head) (refusal : Option NetError) → AreOther refusal
      → Shows None (judged onward next request head refusal)
  shows-judged request head (Some reason) is = shows-refused next goes request reason is
  shows-judged request head None is =
      shows-redirected request head (redirection request head) (redirection-other request head)

  shows-answered : (request : Request) (head : Head) → Shows None (answered onward context next request (Ok head))
  shows-answered request head =
      shows-ask_where request (note_of context.now request head)
      (judged onward next request head (refusal_after request head))
      (shows-judged request head (refusal_after request head) (other-after request head))

  shows-http_fetch : (request : Request) → Shows None (http_fetch onward context next request)
  shows-http_fetch request =
      shows-send request (hop_of context.cookies request) (after_sent onward context next request)
      (shows-head request (after_head onward context next request) (shows-answered request)
      (goes request (Err error.BadHead)) (goes request (Err error.HeadTooBig)) (goes request (Err error.LinkFault)))
      (goes request (Err error.LinkFault))

  shows-preflight_judged : (request : Request) (judgement : Checked) → IsOtherChecked judgement
      → Shows None (preflight_judged onward context next request judgement)
  shows-preflight_judged request (Refused reason) is = shows-refused next goes request reason is
  shows-preflight_judged request (Pass age methods names) is =
      shows-ask None request (learn_of context.client request age methods names context.now)
      (λ input. http_fetch onward context next request) (λ input. shows-http_fetch request)

  shows-preflight_answered : (request : Request) (head : Head)
      → Shows None (preflight_answered onward context next request (Ok head))
  shows-preflight_answered request head =
      let judgement = verdict request (serialized_request_origin request) (names_of request) head in
      shows-ask_where request (note_of context.now request head)
      (preflight_judged onward context next request judgement)
      (shows-preflight_judged request judgement
      (checked-other request (serialized_request_origin request) (names_of request) head))

  shows-covered : (request : Request) (covered : Bool)
      → Shows None (covered_or_not onward context next request covered)
  shows-covered request true = shows-http_fetch request
  shows-covered request false =
      shows-send request (preflight_of request (names_of request)) (after_preflight_sent onward context next request)
      (shows-head request (after_preflight_head onward context next request) (shows-preflight_answered request)
      (goes request (Err error.BadHead)) (goes request (Err error.HeadTooBig)) (goes request (Err error.LinkFault)))
      (goes request (Err error.LinkFault))

-- ---- main fetch
module _ (context : Context) (onward : Onward) (next : Then) (on : ShowsOnward onward) (goes : ShowsThen next) where
  shows-switched : (request : Request) (kind : Switch) → IsOtherSwitch kind
      → Shows None (switched_by onward context next request kind)
  shows-switched request (switch.Fetches kind) is =
      shows-http_fetch context onward next on goes (with_tainting kind request)
  shows-switched request switch.Preflights is =
      let tainted = with_tainting tainting.Cors request in
      shows-ask None tainted (covers_of context.client tainted context.now)
      (after_covers onward context (clearing context next) tainted)
      (λ input. shows-covered context onward (clearing context next) on (shows-clearing context next goes) tainted
      (said_yes input))
  shows-switched request (switch.Refuses reason) is = shows-refused next goes request reason is

  shows-matched : (request : Request) (question : Option Op)
      → Shows None (matched_by onward context next request question)
  shows-matched request None = shows-switched request (switch_of request) (switch-other request)
  shows-matched request (Some op) =
      shows-ask None request op (after_match onward context next request)
      (λ input. shows-switched (secured_where (said_yes input) request)
      (switch_of (secured_where (said_yes input) request)) (switch-other (secured_where (said_yes input) request)))

  shows-unless_violated : (request : Request) (violations : List Violation)
      → Shows None (unless_violated onward context next request violations)
  shows-unless_violated request [] =
      shows-matched (with_referrer context.client request)
      (match_of context.now (with_referrer context.client request))
  shows-unless_violated request (violation ∷ violations) =
      shows-tell_all request (violation ∷ violations) (next request (Err error.CspRequest))
      (goes request (Err error.CspRequest))

  shows-unless_blocked : (request : Request) (refusal : Option NetError) → AreOther refusal
      → Shows None (unless_blocked onward context next request refusal)
  shows-unless_blocked request (Some reason) is = shows-refused next goes request reason is
  shows-unless_blocked request None is =
      shows-unless_violated request (request_violations context.policies request context.client.origin true)

  shows-main_fetch : (request : Request) → Shows None (main_fetch onward context next request)
  shows-main_fetch request =
      let upped = upgraded context.client context.policies request in
      shows-if (is_http_url (current_url request)) None
      (tell_all request (request_violations context.policies request context.client.origin false)
      (checked onward context next upped))
      (next request (Err error.Scheme))
      (shows-tell_all request (request_violations context.policies request context.client.origin false)
      (checked onward context next upped)
      (shows-unless_blocked upped (refusal_before context.client upped) (other-before context.client upped)))
      (goes request (Err error.Scheme))

shows-again : (left : ℕ) (context : Context) → ShowsOnward (again left context)
shows-again zero context next goes request = goes request (Err error.TooManyRedirects)
shows-again (suc left) context next goes request =
    shows-main_fetch context (again left context) next (shows-again left context) goes request

-- a whole fetch
pub shows-fetch : (context : Context) (request : Request) → Shows None (fetch context request)
shows-fetch context request =
    shows-main_fetch context (onward_of context request) (finished context)
    (shows-again (20 - request.redirects) context) (shows-finished context) request
