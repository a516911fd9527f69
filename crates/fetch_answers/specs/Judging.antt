-- How the head of an answer is judged (Fetch, section 4.4 "HTTP fetch", steps 4.4, 5 and 6): what it is refused for,
-- and whether it is a redirect that is to be followed.
use Rattle.std.specs.Prelude.{Bool, not, ◌&&◌, List, Option, None}
use Rattle.value_requests.specs.declared.mode.Tainting.TheVariants as tainting
use Rattle.fetch_answers.specs.Words.{Corp, CorsCheck, Head, Header, NetError, RedirectMode, Request, Tainting}
use Rattle.fetch_answers.specs.Words.{is_blocked, is_error, is_follow, is_redirect_status, option_or, passes_check}
use Rattle.fetch_answers.specs.Words.{then_some}

-- the network error of the check of a response by this tainting: the CORS check (step 4.4), or the cross-origin
-- resource policy check (step 5)
abbrev pub check_error : Tainting → Request → List Header → Option NetError
check_error tainting.Basic request headers = None
check_error tainting.Cors request headers = then_some (not (passes_check request headers)) CorsCheck
check_error tainting.Opaque request headers = then_some (is_blocked request headers) Corp

-- the network error that a head is refused for: that of the check by the request's tainting, or that of a redirect in
-- redirect mode error (step 6.2)
abbrev pub refusal_after : Request → Head → Option NetError
refusal_after request head =
    option_or (check_error request.tainting request head.headers) (then_some (is_error request head) RedirectMode)

-- a redirect that is to be followed, where it leads somewhere: the redirect mode is follow (step 6.2)
abbrev pub is_to_follow : Request → Head → Bool
is_to_follow request head = is_redirect_status head.status && is_follow request.redirect
