-- How a request is fetched (Fetch, section 4.1, "main fetch", step 12: by its current URL, its mode and its flags).
use Rattle.std.specs.Prelude.{Bool, true, false, ◌&&◌, ◌||◌, ◌==◌, not, length, if◌then◌else◌}
use Rattle.value_origins.specs.Origins.{is_origin_of}
use Rattle.fetch_rules.specs.declared.switch.Switch.{Switch}
use Rattle.fetch_rules.specs.declared.switch.Switch.TheVariants.{Fetches, Preflights, Refuses}
use Rattle.policy_safelist.specs.UnsafeNames.{unsafe_names}
use Rattle.value_requests.specs.declared.error.NetError.TheVariants.{SameOriginMode, NoCorsRedirectMode}
use Rattle.value_requests.specs.declared.mode.Mode.{Mode}
use Rattle.value_requests.specs.declared.mode.Mode.TheVariants as mode
use Rattle.value_requests.specs.declared.mode.RedirectMode.{RedirectMode}
use Rattle.value_requests.specs.declared.mode.RedirectMode.TheVariants as redirect
use Rattle.value_requests.specs.declared.mode.Tainting.{Tainting}
use Rattle.value_requests.specs.declared.mode.Tainting.TheVariants as tainting
use Rattle.value_requests.specs.declared.request.Request.{Request}
use Rattle.value_requests.specs.Methods.{is_safelisted_method}
use Rattle.value_requests.specs.Requests.{current_url}

-- the tainting is basic
abbrev pub is_basic : Tainting → Bool
is_basic tainting.Basic = true
is_basic _ = false

-- the current URL is of the request's own origin, and the request's response tainting is basic
abbrev pub is_at_home : Request → Bool
is_at_home request = is_basic request.tainting && is_origin_of request.origin (current_url request)

-- "CORS-unsafe request-header names" are there
abbrev pub has_unsafe_names : Request → Bool
has_unsafe_names request = not (length (unsafe_names request.headers) == 0)

-- the server is to be asked first: the use-CORS-preflight flag is set, or the unsafe-request flag is, and the method is
-- not CORS-safelisted or there are unsafe names
abbrev pub needs_preflight : Request → Bool
needs_preflight request =
    request.use_preflight
    || (request.unsafe_request && (not (is_safelisted_method request.method) || has_unsafe_names request))

-- mode no-cors: the answer is opaque, and redirects must be followed
abbrev pub no_cors_switch : RedirectMode → Switch
no_cors_switch redirect.Follow = Fetches tainting.Opaque
no_cors_switch _ = Refuses NoCorsRedirectMode

-- mode cors: with a CORS-preflight fetch or without
abbrev pub cors_switch : Request → Switch
cors_switch request = if needs_preflight request then Preflights else Fetches tainting.Cors

-- by the mode, away from home. A request in mode navigate never comes to a fetch; here it is one in mode cors (this
-- project's own choice).
abbrev pub away_switch : Mode → Request → Switch
away_switch mode.SameOrigin request = Refuses SameOriginMode
away_switch mode.NoCors request = no_cors_switch request.redirect
away_switch _ request = cors_switch request

-- the first that applies: at home, or by the mode
abbrev pub switch_of : Request → Switch
switch_of request = if is_at_home request then Fetches tainting.Basic else away_switch request.mode request

-- the request with this response tainting
abbrev pub with_tainting : Tainting → Request → Request
with_tainting tainting request = record request { tainting = tainting }
