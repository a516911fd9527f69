-- Main fetch of a `fetch` in mode cors of a document without policies: it comes to the switch.
use Rattle.std.proofs.Common.{◌≡◌, Bool, true, false, not, ◌&&◌, List, []}
use Rattle.std.proofs.Common.{None, Err, ap, ◌∙◌, if◌then◌else◌}
use mathlib.Core.Bool.{and-false}
use Rattle.value_origins.specs.Origins.{is_origin_of}
use Rattle.value_requests.specs.declared.error.NetError.TheVariants.{Scheme}
use Rattle.value_requests.specs.declared.mode.Mode.{Mode}
use Rattle.value_requests.specs.declared.mode.Mode.TheVariants as mode
use Rattle.value_requests.specs.declared.mode.Tainting.TheVariants as tainting
use Rattle.value_requests.specs.declared.policy.Destination.{Destination}
use Rattle.value_requests.specs.declared.policy.Destination.TheVariants as destination
use Rattle.value_requests.specs.declared.request.Request.{Request}
use Rattle.value_requests.specs.Requests.{current_url, is_http_url}
use Rattle.policy_csp_text.specs.declared.policy.Policy.{Policy}
use Rattle.policy_csp.specs.Violations.{request_violations}
use Rattle.policy_checks.specs.Mixed.{is_ip_address, is_upgradeable, prohibits_mixed}
use Rattle.value_origins.specs.Trust.{is_trustworthy_url}
use Rattle.url.specs.Parts.{nonempty_host}
use Rattle.fetch_rules.specs.Blocking.{refusal_before}
use Rattle.fetch_rules.specs.Referrers.{with_referrer}
use Rattle.fetch_rules.specs.Switch.{away_switch, cors_switch, is_basic, needs_preflight, switch_of, with_tainting}
use Rattle.fetch_rules.specs.Upgrading.{secured_where, upgraded}
use Rattle.fetch_rules.specs.declared.switch.Switch.TheVariants.{Fetches, Preflights}
use Rattle.fetch_definitions.specs.HttpFetch.{http_fetch}
use Rattle.fetch_definitions.specs.MainFetch.{checked, main_fetch, matched, switched, switched_by, unless_refused}
use Rattle.fetch_definitions.specs.MainFetch.{unless_violated}
use Rattle.fetch_definitions.specs.PreflightFetch.{with_preflight}
use Rattle.fetch_definitions.specs.Then.{Context, Onward, Then, tell_all}

module _ (onward : Onward) (context : Context) (next : Then) where
  -- nothing is told, upgraded or blocked: the book is asked for the host
  pub main-is : (request : Request) → is_http_url (current_url request) ≡ true → context.policies ≡ []
      → request.destination ≡ destination.Fetch → refusal_before context.client request ≡ None
      → main_fetch onward context next request ≡ matched onward context next (with_referrer context.client request)
  main-is request http policies destined unblocked =
      let client = context.client in
      ap (λ (b : Bool). if b then tell_all request (request_violations context.policies request client.origin false)
      (checked onward context next (upgraded client context.policies request)) else next request (Err Scheme)) http
      ∙ ap (λ (p : List Policy). tell_all request (request_violations p request client.origin false)
      (checked onward context next (upgraded client p request))) policies
      ∙ ap (λ (d : Destination). checked onward context next
      (secured_where (is_upgradeable d && prohibits_mixed client.origin client.top
      && not (is_trustworthy_url (current_url request)) && not (is_ip_address (nonempty_host (current_url request))))
      request)) destined
      ∙ ap (unless_refused onward context next request) unblocked
      ∙ ap (λ (p : List Policy). unless_violated onward context next request
      (request_violations p request client.origin true)) policies

  -- the switch, away from home
  pub switch-is : (request : Request) → request.mode ≡ mode.Cors
      → is_origin_of request.origin (current_url request) ≡ false → switch_of request ≡ cors_switch request
  switch-is request cors away =
      ap (λ (b : Bool). if is_basic request.tainting && b then Fetches tainting.Basic
      else away_switch request.mode request) away
      ∙ ap (λ (b : Bool). if b then Fetches tainting.Basic else away_switch request.mode request)
      (and-false (is_basic request.tainting))
      ∙ ap (λ (m : Mode). away_switch m request) cors

  -- with a preflight or without
  pub switched-is : (request : Request) (asks : Bool) → needs_preflight request ≡ asks → request.mode ≡ mode.Cors
      → is_origin_of request.origin (current_url request) ≡ false
      → switched onward context next request
      ≡ (if asks then with_preflight onward context next (with_tainting tainting.Cors request)
      else http_fetch onward context next (with_tainting tainting.Cors request))
  switched-is request true is cors away =
      ap (switched_by onward context next request) (switch-is request cors away
      ∙ ap (λ (b : Bool). if b then Preflights else Fetches tainting.Cors) is)
  switched-is request false is cors away =
      ap (switched_by onward context next request) (switch-is request cors away
      ∙ ap (λ (b : Bool). if b then Preflights else Fetches tainting.Cors) is)
