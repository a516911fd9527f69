-- What a document may learn of the head of an answer to one of its requests: this project's own definition. Each rule
-- of a fetch that looks at a head (Fetch, sections 4.1, 4.4 and 4.5) comes to the same on this view of it, as the laws
-- say. The header that known hosts are noted by (RFC 6797, section 8.1) is in each view.
use Rattle.std.specs.Prelude.{ℕ, Bool, false, not, ◌&&◌, ◌||◌, List, [], ◌∷◌, filter, codes, if◌then◌else◌}
use Rattle.value_text.specs.Texts.{Text}
use Rattle.value_headers.specs.declared.headers.Header.{Header}
use Rattle.value_headers.specs.Headers.{contains}
use Rattle.value_requests.specs.declared.hop.Head.{Head}
use Rattle.value_requests.specs.declared.hop.Hop.{Hop}
use Rattle.value_requests.specs.declared.mode.Tainting.TheVariants as tainting
use Rattle.value_requests.specs.declared.mode.Tainting.{Tainting}
use Rattle.value_requests.specs.declared.policy.Destination.TheVariants as destination
use Rattle.value_requests.specs.declared.policy.Destination.{Destination}
use Rattle.value_requests.specs.declared.request.Request.{Request}
use Rattle.policy_checks.specs.CorsCheck.{passes_check}
use Rattle.value_requests.specs.Modes.{is_error_mode, is_follow, is_manual_mode}
use Rattle.policy_checks.specs.PermittedNames.{has_name_among, preflight_view}
use Rattle.policy_checks.specs.ResourcePolicy.{is_blocked}
use Rattle.value_requests.specs.Statuses.{is_redirect_status}
use Rattle.policy_filter.specs.Filtered.{exposed_to, without_forbidden}
use Rattle.policy_filter.specs.Names.{is_safelisted}

-- ---- what is asked of a head

-- the check of a response by its tainting fails: the CORS check, or the cross-origin resource policy check
abbrev pub is_refused_by : Tainting → Request → List Header → Bool
is_refused_by tainting.Basic request headers = false
is_refused_by tainting.Cors request headers = not (passes_check request headers)
is_refused_by tainting.Opaque request headers = is_blocked request headers

-- the check of a response by the request's tainting fails
abbrev pub is_refused : Request → List Header → Bool
is_refused request headers = is_refused_by request.tainting request headers

-- a redirect in redirect mode manual, whose response is an opaque-redirect one
abbrev pub is_manual : Request → Head → Bool
is_manual request head = is_redirect_status head.status && is_manual_mode request.redirect

-- a redirect in redirect mode error, which is a network error
abbrev pub is_error : Request → Head → Bool
is_error request head = is_redirect_status head.status && is_error_mode request.redirect

-- a redirect that is not to be followed, in redirect mode error or manual
abbrev pub is_unfollowed : Request → Head → Bool
is_unfollowed request head = is_redirect_status head.status && not (is_follow request.redirect)

-- a redirect that is followed: the redirect mode is follow and there is a Location
abbrev pub is_followed : Request → Head → Bool
is_followed request head =
    is_redirect_status head.status && is_follow request.redirect && contains (codes "Location") head.headers

-- ---- names

-- the headers that the check of this tainting rests on, and the one that known hosts are noted by
abbrev pub checked_names : Tainting → List Text
checked_names tainting.Basic = codes "Strict-Transport-Security" ∷ []
checked_names tainting.Cors =
    codes "Strict-Transport-Security" ∷ codes "Access-Control-Allow-Origin"
    ∷ codes "Access-Control-Allow-Credentials" ∷ []
checked_names tainting.Opaque = codes "Strict-Transport-Security" ∷ codes "Cross-Origin-Resource-Policy" ∷ []

-- the headers that following a redirect rests on
abbrev pub redirect_names : List Text
redirect_names = codes "Location" ∷ codes "Referrer-Policy" ∷ []

-- the headers that blocking for a MIME type rests on, which scripts and styles alone are blocked for
abbrev pub type_names : Destination → List Text
type_names destination.Style = codes "X-Content-Type-Options" ∷ codes "Content-Type" ∷ []
type_names destination.Script = codes "X-Content-Type-Options" ∷ codes "Content-Type" ∷ []
type_names _ = []

-- the headers of a CORS response that the end of main fetch rests on
abbrev pub response_names : List Text
response_names =
    codes "Access-Control-Expose-Headers" ∷ codes "X-Content-Type-Options" ∷ codes "Content-Type"
    ∷ codes "Content-Encoding" ∷ []

-- ---- the cases

-- the header is one that the check of this tainting rests on, or has one of these names
abbrev pub is_told : Tainting → List Text → Header → Bool
is_told tainting names header = has_name_among (checked_names tainting) header || has_name_among names header

-- of a head, this status and the headers that are told
abbrev pub told : Tainting → List Text → ℕ → Head → Head
told tainting names status head = record { status = status; headers = filter (is_told tainting names) head.headers }

-- of a response that is refused, what its check rests on
abbrev pub refused_view : Request → Head → Head
refused_view request head = told request.tainting [] 200 head

-- of a redirect that is not to be followed, that it is one
abbrev pub unfollowed_view : Request → Head → Head
unfollowed_view request head = told request.tainting [] 302 head

-- of a redirect that is followed, its status and where it leads
abbrev pub followed_view : Request → Head → Head
followed_view request head = told request.tainting redirect_names head.status head

-- of an opaque response, what blocks it, and not its status
abbrev pub opaque_view : Request → Head → Head
opaque_view request head = told tainting.Opaque (type_names request.destination) 200 head

-- the header is in the CORS filtered response that exposes these names, or told
abbrev pub is_told_cors : List Text → Header → Bool
is_told_cors exposed header = is_safelisted exposed header || is_told tainting.Cors response_names header

-- of a CORS response, its status, what its filtered response keeps and what the end of main fetch rests on
abbrev pub cors_view : Request → Head → Head
cors_view request head = record {
  status = head.status;
  headers = filter (is_told_cors (exposed_to request head.headers)) head.headers;
}

-- of a basic response, all but the headers with a forbidden response-header name
abbrev pub basic_view : Head → Head
basic_view head = record { status = head.status; headers = without_forbidden head.headers }

-- of a response that is handed over, by its tainting
abbrev pub response_view : Tainting → Request → Head → Head
response_view tainting.Basic request head = basic_view head
response_view tainting.Cors request head = cors_view request head
response_view tainting.Opaque request head = opaque_view request head

-- what a document may learn of a head that answers its request, as this hop or as a preflight: the first case that
-- applies
abbrev pub permitted_view : Request → Hop → Head → Head
permitted_view request hop head =
    if hop.preflight then preflight_view head
    else if is_refused request head.headers then refused_view request head
    else if is_unfollowed request head then unfollowed_view request head
    else if is_followed request head then followed_view request head
    else response_view request.tainting request head
