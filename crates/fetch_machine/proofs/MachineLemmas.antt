-- What the clears and the redirects of a level come to.
use Rattle.std.proofs.Common.{◌≡◌, ℕ, zero, suc, Bool, true, false, ◌+◌, ◌-◌, ◌<◌, Ok, Err, refl, ap, sym, ◌∙◌}
use Rattle.std.proofs.Common.{arith, cond, inl, inr, length, subst}
use Rattle.std.proofs.Common.{List, [], ◌∷◌, Some, Result}
use Rattle.std.proofs.lemmas.Bool.{cases_Bool, true≢false}
use Rattle.std.specs.Prelude.{◌==◌}
use Rattle.url.specs.Parts.{Parts}
use Rattle.fetch_answers.specs.Endings.{ended as ended_with}
use Rattle.fetch_answers.specs.Following.{redirected_request, turns_to_get, with_authorization_at, with_method_after}
use Rattle.fetch_answers.specs.Judging.{refusal_after}
use Rattle.fetch_answers.specs.declared.answers.Ended.{Ended}
use Rattle.book_calls.specs.declared.op.Op.{Op}
use Rattle.policy_preflight.specs.Verdict.{verdict}
use Rattle.policy_preflight.specs.declared.answer.Checked.{Checked}
use Rattle.value_origins.specs.Origins.{have_same_origin}
use Rattle.fetch_rules.specs.KnownHosts.{note_of}
use Rattle.value_requests.specs.Requests.{current_url}
use Rattle.policy_checks.specs.RequestOrigins.{serialized_request_origin}
use Rattle.value_requests.specs.declared.error.NetError.TheVariants.{CspRequest}
use Rattle.value_requests.specs.declared.policy.Violation.{Violation}
use Rattle.value_bytes.specs.declared.memory.OutOfMemory.{OutOfMemory}
use Rattle.policy_csp.specs.Violations.{has_enforced, response_violations, upgrades}
use Rattle.policy_csp_text.specs.declared.policy.Policy.{Policy}
use Rattle.policy_checks.specs.Mixed.{is_upgraded}
use Rattle.fetch_rules.specs.Questions.{clear_of, covers_of}
use Rattle.fetch_rules.specs.Upgrading.{insecure_upgraded, secured_where, upgraded}
use Rattle.value_requests.specs.declared.client.Client.{Client}
use Rattle.value_requests.specs.declared.error.NetError.{NetError}
use Rattle.value_requests.specs.declared.hop.Head.{Head}
use Rattle.value_requests.specs.declared.request.Request.{Request}
use Rattle.fetch_acts.specs.declared.act.Act.TheVariants.{Ask}
use Rattle.fetch_acts.specs.Process.{Process, act}
use Rattle.fetch_machine.specs.declared.place.Step.{Step}
use Rattle.fetch_machine.specs.declared.place.Level.{Level}
use Rattle.fetch_definitions.specs.Fetch.{again, ends, finished, onward_of}
use Rattle.fetch_definitions.specs.HttpFetch.{answered, judged}
use Rattle.fetch_machine.specs.Machine.{Does, Leads, at_level, clears, next_of}
use Rattle.fetch_definitions.specs.MainFetch.{main_fetch, unless_violated}
use Rattle.fetch_definitions.specs.PreflightFetch.{after_covers, names_of, preflight_answered, preflight_judged}
use Rattle.fetch_definitions.specs.PreflightFetch.{with_preflight}
use Rattle.fetch_definitions.specs.Then.{Context, Onward, Then, tell_all, then_ask}

-- a head is passed out by each level that owes a clear
clears-head : (context : Context) (owed : ℕ) (request : Request) (head : Head)
    → clears context owed request (Ok head) ≡ finished context request (Ok head)
clears-head context zero request head = refl
clears-head context (suc owed) request head = clears-head context owed request head

pub next_of-head : (context : Context) (owed : ℕ) (owes : Bool) (request : Request) (head : Head)
    → next_of context owed owes request (Ok head) ≡ finished context request (Ok head)
next_of-head context owed true request head = clears-head context owed request head
next_of-head context owed false request head = clears-head context owed request head

-- a request that may go on has one redirect more left than the next one
pub left-one_more : (count : ℕ) → count < 20 → 20 - count ≡ suc (20 - (count + 1))
left-one_more count few = omega arith

-- so main fetch again is what the definition has at the redirects that are left
pub follow-leads : (context : Context) (result : Result Step OutOfMemory) (count : ℕ) (request : Request) (next : Then)
    → count < 20
    → Leads context result (main_fetch (again (20 - (count + 1)) context) context next request)
    → Leads context result (again (20 - count) context next request)
follow-leads context result count request next few leads = rw (left-one_more count few) leads

-- an error is followed by one clear, and then by those that are owed behind it
pub clear_first : (context : Context) (owed : ℕ) (owes : Bool) (request : Request) (error : NetError)
    → (owes ≡ false → 0 < owed)
    → next_of context owed owes request (Err error)
    ≡ then_ask request (clear_of context.client request context.now)
    (next_of context (cond owes owed (owed - 1)) false request (Err error))
clear_first context owed true request error some = refl
clear_first context zero false request error some = absurd (omega (arith, some refl))
clear_first context (suc owed) false request error some =
    ap (λ (n : ℕ). then_ask request (clear_of context.client request context.now) (clears context n request
    (Err error)))
    (omega arith)

-- with a preflight a level owes a clear
pub with_preflight-owing : (onward : Onward) (context : Context) (owed : ℕ) (owes : Bool) (request : Request)
    → owes ≡ false
    → with_preflight onward context (next_of context owed owes) request
    ≡ act request (Ask (covers_of context.client request context.now))
    (after_covers onward context (next_of context owed true) request)
with_preflight-owing onward context owed owes request none = rw none refl

-- a step does what an equal process does
pub does-same : (context : Context) (step : Step) (p q : Process) → q ≡ p → Does context step p → Does context step q
does-same context step p q same does = subst (λ (r : Process). Does context step r) (sym same) does

-- the same of an answer
pub leads-same : (context : Context) (result : Result Step OutOfMemory) (p q : Process) → q ≡ p
    → Leads context result p → Leads context result q
leads-same context result p q same leads = subst (λ (r : Process). Leads context result r) (sym same) leads

-- what is done with a level that was changed is done with what it was changed to
pub leads-changed : (context : Context) (result : Result Step OutOfMemory) (level changed : Level) (request : Request)
    (rule : Onward → Context → Then → Request → Process)
    → changed.request.value ≡ request → changed.owed ≡ level.owed → changed.owes ≡ level.owes
    → Leads context result (at_level context changed rule)
    → Leads context result (rule (onward_of context request) context (next_of context level.owed level.owes) request)
leads-changed context result level changed request rule r o w leads = rw (sym r, sym o, sym w) leads

-- an upgrade leaves the redirect count
secured-redirects : (yes : Bool) (request : Request) → (secured_where yes request).redirects ≡ request.redirects
secured-redirects true request = refl
secured-redirects false request = refl

pub upgraded-redirects : (client : Client) (policies : List Policy) (request : Request)
    → (upgraded client policies request).redirects ≡ request.redirects
upgraded-redirects client policies request =
    secured-redirects (is_upgraded (insecure_upgraded policies request) client.origin client.top)
    (insecure_upgraded policies request)
    ∙ secured-redirects (upgrades policies) request

-- a redirect of a request goes on as one of another that was redirected as often
pub onward-same : (context : Context) (a b : Request) → a.redirects ≡ b.redirects
    → onward_of context a ≡ onward_of context b
onward-same context a b same = ap (λ (n : ℕ). again (20 - n) context) same

-- violated policies block the request
pub violated-blocks : (onward : Onward) (context : Context) (next : Then) (request : Request)
    (violations : List Violation) → (length violations == 0) ≡ false
    → unless_violated onward context next request violations ≡ tell_all request violations (next request
    (Err CspRequest))
violated-blocks onward context next request [] some = absurd (true≢false some)
violated-blocks onward context next request (violation ∷ violations) some = refl

-- a head at the end: its violations, and how the fetch ends
pub finished-as : (context : Context) (request : Request) (head : Head) (violations : List Violation) (blocked : Bool)
    (end : Ended) → violations ≡ response_violations context.policies request context.client.origin
    → blocked ≡ has_enforced violations → end ≡ ended_with blocked request head
    → finished context request (Ok head) ≡ tell_all request violations (ends request end)
finished-as context request head violations blocked end v b e = rw (e, b, v) refl

-- a known host is noted before the head is judged
pub answered-notes : (onward : Onward) (context : Context) (next : Then) (request : Request)
    (came : Result Head NetError) (head : Head) (op : Op) → came ≡ Ok head
    → note_of context.now request head ≡ Some op
    → answered onward context next request came
    ≡ act request (Ask op) (λ input. judged onward next request head (refusal_after request head))
answered-notes onward context next request came head op e n = rw (e, n) refl

pub preflight-notes : (onward : Onward) (context : Context) (next : Then) (request : Request)
    (came : Result Head NetError) (head : Head) (op : Op) (checked : Checked) → came ≡ Ok head
    → note_of context.now request head ≡ Some op
    → checked ≡ verdict request (serialized_request_origin request) (names_of request) head
    → preflight_answered onward context next request came
    ≡ act request (Ask op) (λ input. preflight_judged onward context next request checked)
preflight-notes onward context next request came head op checked e n v = rw (e, n, v) refl

-- the redirect count after a redirect
method-count : (status : ℕ) (request : Request) → (with_method_after status request).redirects ≡ request.redirects
method-count status request =
    elim (cases_Bool (turns_to_get request.method status)) [
      | inl turns ↦ rw turns refl
      | inr stays ↦ rw stays refl
    ]

authorization-count : (url : Parts) (request : Request)
    → (with_authorization_at url request).redirects ≡ request.redirects
authorization-count url request =
    elim (cases_Bool (have_same_origin (current_url request) url)) [
      | inl same ↦ rw same refl
      | inr other ↦ rw other refl
    ]

pub redirected-count : (request : Request) (head : Head) (url : Parts)
    → (redirected_request request head url).redirects ≡ request.redirects + 1
redirected-count request head url =
    ap (λ (n : ℕ). n + 1) (authorization-count url (with_method_after head.status request)
    ∙ method-count head.status request)

-- a redirect that may go on: main fetch again is what the definition has
pub goes-on : (context : Context) (result : Result Step OutOfMemory) (count : ℕ) (made to : Request) (owing next : Then)
    → count < 20 → made ≡ to → to.redirects ≡ count + 1 → owing ≡ next
    → Leads context result (main_fetch (onward_of context made) context owing made)
    → Leads context result (again (20 - count) context next to)
goes-on context result count made to owing next few is more same leads =
    follow-leads context result count to next few
    (subst (λ (n : ℕ). Leads context result (main_fetch (again (20 - n) context) context next to)) more
    (subst (λ (then_ : Then). Leads context result (main_fetch (onward_of context to) context then_ to)) same
    (subst (λ (r : Request). Leads context result (main_fetch (onward_of context r) context owing r)) is leads)))
