-- HTTP fetch in mode cors, over heads of which what counts is given: a head that fails the CORS check ends it, and one
-- with status 200 that passes is a response.
use Rattle.std.proofs.Common.{◌≡◌, ℕ, Bool, true, false, not, ◌&&◌, ◌||◌, ◌==◌, List, [], length}
use Rattle.std.proofs.Common.{Option, Some, None, Ok, Err, codes, bytes_eq, refl, ap, ◌∙◌, option_map}
use Rattle.std.proofs.Common.{option_and_then, if◌then◌else◌}
use mathlib.Core.Bool.{and-false, or-false}
use Rattle.std.specs.Bool.{then_some}
use Rattle.std.specs.Option.{option_or}
use Rattle.policy_filter.proofs.LawLemmas.{not-script}
use Rattle.value_lists.specs.declared.extract.Rule.TheVariants.{Single}
use Rattle.value_headers.specs.declared.headers.Header.{Header}
use Rattle.value_lists.specs.Extract.{extracted}
use Rattle.value_headers.specs.Headers.{joined, values_of}
use Rattle.value_lists.specs.Split.{split}
use Rattle.book_hosts.specs.declared.sts.Sts.{Sts}
use Rattle.book_hosts.specs.Reading.{sts_in}
use Rattle.value_lists.specs.Essence.{essence_of}
use Rattle.value_lists.specs.Nosniff.{nosniff}
use Rattle.value_requests.specs.declared.error.NetError.{NetError}
use Rattle.value_requests.specs.declared.error.NetError.TheVariants as error
use Rattle.value_requests.specs.declared.hop.Head.{Head}
use Rattle.value_requests.specs.declared.mode.Tainting.{Tainting}
use Rattle.value_requests.specs.declared.mode.Tainting.TheVariants as tainting
use Rattle.value_requests.specs.declared.policy.Destination.{Destination}
use Rattle.value_requests.specs.declared.policy.Destination.TheVariants as destination
use Rattle.value_requests.specs.declared.request.Request.{Request}
use Rattle.value_requests.specs.declared.response.BodyEnd.{BodyEnd}
use Rattle.value_requests.specs.declared.response.Outcome.{Outcome}
use Rattle.value_requests.specs.declared.response.Outcome.TheVariants.{Answer, Error, Loaded}
use Rattle.value_requests.specs.declared.response.Response.{Response}
use Rattle.policy_checks.specs.CorsCheck.{passes_check}
use Rattle.value_requests.specs.Modes.{is_error_mode, is_follow, is_manual_mode}
use Rattle.value_requests.specs.Statuses.{is_null_body_status, is_redirect_status}
use Rattle.book_calls.specs.declared.op.Op.{Op}
use Rattle.book_calls.specs.declared.op.Op.TheVariants.{Note}
use Rattle.policy_csp_text.specs.declared.policy.Policy.{Policy}
use Rattle.policy_csp.specs.Violations.{response_violations}
use Rattle.policy_filter.specs.Filtered.{cors_filtered, filtered, filtered_by}
use Rattle.policy_filter.specs.Laws.{is_fetch, is_opaque_tainted}
use Rattle.policy_filter.specs.Views.{is_error, is_manual}
use Rattle.fetch_acts.specs.declared.act.Input.TheVariants.{BodyIs, HeadIs}
use Rattle.fetch_acts.specs.Process.{ended}
use Rattle.fetch_rules.specs.KnownHosts.{first_of, host_to_note, note_of}
use Rattle.fetch_answers.specs.declared.answers.Ended.{Ended}
use Rattle.fetch_answers.specs.declared.answers.Ended.TheVariants.{Over, Reads}
use Rattle.fetch_answers.specs.declared.answers.Redirection.TheVariants.{Stays}
use Rattle.fetch_answers.specs.Bodies.{changes_body, has_null_body}
use Rattle.fetch_answers.specs.Endings.{ended_by, ended_read}
use Rattle.fetch_answers.specs.Endings.{ended_unblocked, ended_under, handed_over, is_bodiless, is_read, is_trusting}
use Rattle.fetch_answers.specs.Endings.{is_matched, response_of, type_error, without_body}
use Rattle.fetch_answers.specs.Judging.{check_error, refusal_after}
use Rattle.fetch_answers.specs.Redirects.{redirection, redirection_by}
use Rattle.fetch_definitions.specs.Fetch.{after_body, ends, finished}
use Rattle.fetch_definitions.specs.HttpFetch.{after_head, judged, redirected}
use Rattle.fetch_definitions.specs.Then.{Context, Onward, Then, tell_all, then_ask_where}

-- the name of the field that known hosts are noted by
abbrev pub sts : List ℕ
sts = codes "Strict-Transport-Security"

no-host : (now : ℕ) (host : Option (List ℕ))
    → option_and_then (λ (h : List ℕ). option_map (λ (s : Sts). Note h s now) None) host ≡ None
no-host now None = refl
no-host now (Some host) = refl

-- no host is noted of a head without it
pub no-note : (now : ℕ) (request : Request) (head : Head) → values_of sts head.headers ≡ []
    → note_of now request head ≡ None
no-note now request head none =
    ap (λ (values : List (List ℕ)). option_and_then (λ (h : List ℕ). option_map (λ (s : Sts). Note h s now)
    (option_and_then sts_in (first_of values))) (host_to_note request)) none
    ∙ no-host now (host_to_note request)

module _ (onward : Onward) (context : Context) (next : Then) (request : Request) (head : Head)
    (tainted : request.tainting ≡ tainting.Cors) (silent : values_of sts head.headers ≡ []) where
  -- its judgement
  pub by-judgement : (refusal : Option NetError) → refusal_after request head ≡ refusal
      → after_head onward context next request (HeadIs head) ≡ judged onward next request head refusal
  by-judgement refusal is =
      ap (λ (op : Option Op). then_ask_where request op
      (judged onward next request head (refusal_after request head))) (no-note context.now request head silent)
      ∙ ap (judged onward next request head) is

  -- the refusal, where the CORS check passes or fails
  refusal-is : (passes : Bool) → passes_check request head.headers ≡ passes
      → refusal_after request head
      ≡ option_or (then_some (not passes) error.CorsCheck) (then_some (is_error request head) error.RedirectMode)
  refusal-is passes is =
      ap (λ (t : Tainting). option_or (check_error t request head.headers)
      (then_some (is_error request head) error.RedirectMode)) tainted
      ∙ ap (λ (b : Bool). option_or (then_some (not b) error.CorsCheck)
      (then_some (is_error request head) error.RedirectMode)) is

  -- a head that fails the CORS check
  pub http-fails : passes_check request head.headers ≡ false
      → after_head onward context next request (HeadIs head) ≡ next request (Err error.CorsCheck)
  http-fails fails = by-judgement (Some error.CorsCheck) (refusal-is false fails)

  -- one that passes and is no redirect
  pub http-passes : passes_check request head.headers ≡ true → is_redirect_status head.status ≡ false
      → after_head onward context next request (HeadIs head) ≡ next request (Ok head)
  http-passes passes stays =
      by-judgement None (refusal-is true passes
      ∙ ap (λ (b : Bool). then_some (b && is_error_mode request.redirect) error.RedirectMode) stays)
      ∙ ap (redirected onward next request head) stayed
    where
      stayed : redirection request head ≡ Stays
      stayed =
          ap (λ (b : Bool). if b && is_follow request.redirect
          then redirection_by request (extracted Single (codes "Location") head.headers) else Stays) stays

-- ---- the end

-- What counts of a request that is at its end, and of its head.
pub record IsAtEnd (context : Context) (request : Request) (head : Head) : Type 0 where
  pub policies_are : context.policies ≡ []
  pub tainted : request.tainting ≡ tainting.Cors
  pub destined : request.destination ≡ destination.Fetch
  pub trusting : request.integrity ≡ []
  pub status_is : head.status ≡ 200
  pub uncoded : values_of (codes "Content-Encoding") head.headers ≡ []

-- a `fetch` is blocked for no type
no-block : (kind : Destination) (headers : List Header) → kind ≡ destination.Fetch → type_error kind headers ≡ None
no-block kind headers is =
    ap (λ (d : Destination). type_error d headers) is
    ∙ ap (λ (b : Bool). if b then Some error.Mime
    else if nosniff headers && false then Some error.NoSniff else None) (not-script (essence_of headers))
    ∙ ap (λ (b : Bool). if b then Some error.NoSniff else None) (and-false (nosniff headers))

module _ (context : Context) (request : Request) (head : Head) (is : IsAtEnd context request head) where
  -- the response, before its body is read
  abbrev pub response : Response
  response = cors_filtered request head

  unredirected : is_redirect_status head.status ≡ false
  unredirected = ap is_redirect_status is.status_is

  manual-not : is_manual request head ≡ false
  manual-not = ap (λ (b : Bool). b && is_manual_mode request.redirect) unredirected

  response-is : response_of request head ≡ response
  response-is =
      ap (filtered request head) manual-not
      ∙ ap (λ (t : Tainting). filtered_by t request head) is.tainted

  bodiless-is : is_bodiless request head ≡ bytes_eq request.method (codes "HEAD")
  bodiless-is =
      ap (λ (t : Tainting). is_opaque_tainted t || is_manual request head || has_null_body request head) is.tainted
      ∙ ap (λ (b : Bool). b || has_null_body request head) manual-not
      ∙ ap (λ (n : ℕ). bytes_eq request.method (codes "HEAD") || is_null_body_status n) is.status_is
      ∙ or-false (bytes_eq request.method (codes "HEAD"))

  trusting-is : is_trusting request ≡ true
  trusting-is = ap (λ (text : List ℕ). length text == 0) is.trusting

  handed : (answer : Response) → handed_over request answer ≡ Answer answer
  handed answer = ap (λ (d : Destination). if is_fetch d then Answer answer else Loaded) is.destined

  -- the response is read, or handed over where there is no body
  abbrev pub end : Bool → Ended
  end bodiless = if bodiless then Over (Answer response) else Reads response

  ends-null : Over (without_body request (response_of request head)) ≡ Over (Answer response)
  ends-null =
      ap (λ (b : Bool). Over (if b then handed_over request (response_of request head) else Error error.Integrity))
      trusting-is
      ∙ ap (λ (r : Response). Over (handed_over request r)) response-is ∙ ap (λ (o : Outcome). Over o) (handed response)

  ends-read : (if not (is_read request) then Over Loaded else ended_read request head) ≡ Reads response
  ends-read =
      ap (λ (d : Destination). if not (is_fetch d || not (is_trusting request)) then Over Loaded
      else ended_read request head) is.destined
      ∙ ap (λ (values : List (List ℕ)). if changes_body (option_map split (joined values))
      then Over (Error error.Coding) else Reads (response_of request head)) is.uncoded
      ∙ ap (λ (r : Response). Reads r) response-is

  end-by : (bodiless : Bool) → is_bodiless request head ≡ bodiless → ended_unblocked request head ≡ end bodiless
  end-by true so =
      ap (λ (b : Bool). if b then Over (without_body request (response_of request head))
      else if not (is_read request) then Over Loaded else ended_read request head) so ∙ ends-null
  end-by false so =
      ap (λ (b : Bool). if b then Over (without_body request (response_of request head))
      else if not (is_read request) then Over Loaded else ended_read request head) so ∙ ends-read

  -- the fetch ends with it
  pub finished-is : (bodiless : Bool) → bytes_eq request.method (codes "HEAD") ≡ bodiless
      → finished context request (Ok head) ≡ ends request (end bodiless)
  finished-is bodiless so =
      ap (λ (p : List Policy). tell_all request (response_violations p request context.client.origin)
      (ends request (ended_under p context.client.origin request head))) is.policies_are
      ∙ ap (λ (o : Option NetError). ends request (ended_by o request head))
      (no-block request.destination head.headers is.destined)
      ∙ ap (ends request) (end-by bodiless (bodiless-is ∙ so))

  -- after its body
  pub body-is : (came : BodyEnd)
      → after_body request response (BodyIs came) ≡ ended (Answer (record response { body = came }))
  body-is came =
      ap (λ (b : Bool). ended (if b || is_matched request.integrity came
      then handed_over request (record response { body = came }) else Error error.Integrity)) trusting-is
      ∙ ap (λ (o : Outcome). ended o) (handed (record response { body = came }))
