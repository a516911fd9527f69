-- Laws of permitted views: each rule of a fetch that looks at a head comes to the same on its permitted view, where the
-- rule is asked (Fetch, sections 4.1, 4.4 and 4.5).
use Rattle.std.specs.Prelude.{◌≡◌, Bool, true, false, not, ◌&&◌, ◌||◌, IsTrue, codes}
use Rattle.value_headers.specs.Headers.{values_of}
use Rattle.value_requests.specs.declared.hop.Head.{Head}
use Rattle.value_requests.specs.declared.hop.Hop.{Hop}
use Rattle.value_requests.specs.declared.mode.Tainting.{Tainting}
use Rattle.value_requests.specs.declared.mode.Tainting.TheVariants as tainting
use Rattle.value_requests.specs.declared.policy.Destination.{Destination}
use Rattle.value_requests.specs.declared.policy.Destination.TheVariants as destination
use Rattle.value_requests.specs.declared.request.Request.{Request}
use Rattle.value_requests.specs.Modes.{is_cors_tainted, is_follow}
use Rattle.policy_filter.specs.Blocks.{is_nosniff_blocked, is_type_blocked}
use Rattle.policy_filter.specs.Filtered.{filtered}
use Rattle.policy_filter.specs.Views.{is_error, is_followed, is_manual, is_refused}
use Rattle.policy_checks.specs.ResourcePolicy.{is_blocked}
use Rattle.policy_checks.specs.CorsCheck.{passes_check}
use Rattle.policy_filter.specs.Views.{permitted_view}

-- ---- where the rules are asked

-- the tainting is opaque
abbrev pub is_opaque_tainted : Tainting → Bool
is_opaque_tainted tainting.Opaque = true
is_opaque_tainted _ = false

-- the destination is that of a `fetch`
abbrev pub is_fetch : Destination → Bool
is_fetch destination.Fetch = true
is_fetch _ = false

-- the redirect mode is follow or the destination that of a `fetch`, as of each request that a document makes
abbrev pub follows_or_fetches : Request → Bool
follows_or_fetches request = is_follow request.redirect || is_fetch request.destination

-- A head whose redirect, if it is one, is looked at: it answers no preflight, and its check does not refuse it.
pub record IsAllowed (request : Request) (hop : Hop) (head : Head) : Type 0 where
  pub sent : IsTrue (not hop.preflight)
  pub allowed : IsTrue (not (is_refused request head.headers))

-- A head that is handed over as a response: it is allowed, and no redirect that is followed or an error.
pub record IsResponse (request : Request) (hop : Hop) (head : Head) : Type 0 where
  pub allowed : IsAllowed request hop head
  pub last : IsTrue (not (is_followed request head))
  pub no_error : IsTrue (not (is_error request head))

-- ---- the laws

-- a permitted view is its own permitted view
abbrev pub IsOwnView : Type 0
IsOwnView =
    (request : Request) (hop : Hop) (head : Head)
    → permitted_view request hop (permitted_view request hop head) ≡ permitted_view request hop head

-- the header that known hosts are noted by has its values
abbrev pub KeepsKnownHost : Type 0
KeepsKnownHost =
    (request : Request) (hop : Hop) (head : Head)
    → let name = codes "Strict-Transport-Security" in
    values_of name (permitted_view request hop head).headers ≡ values_of name head.headers

-- the CORS check comes to the same, of the answer to a preflight and under tainting cors
abbrev pub KeepsCorsCheck : Type 0
KeepsCorsCheck =
    (request : Request) (hop : Hop) (head : Head)
    → IsTrue (hop.preflight || is_cors_tainted request.tainting)
    → passes_check request (permitted_view request hop head).headers ≡ passes_check request head.headers

-- the cross-origin resource policy check comes to the same, under tainting opaque
abbrev pub KeepsResourcePolicy : Type 0
KeepsResourcePolicy =
    (request : Request) (hop : Hop) (head : Head)
    → IsTrue (not hop.preflight && is_opaque_tainted request.tainting)
    → is_blocked request (permitted_view request hop head).headers ≡ is_blocked request head.headers

-- What is done with a head as a redirect is the same: whether it is an error, its response is an opaque-redirect one,
-- or it is followed.
pub record IsSameRedirect (request : Request) (view head : Head) : Type 0 where
  pub error : is_error request view ≡ is_error request head
  pub manual : is_manual request view ≡ is_manual request head
  pub followed : is_followed request view ≡ is_followed request head

-- this holds of an allowed head and its view
abbrev pub KeepsRedirect : Type 0
KeepsRedirect =
    (request : Request) (hop : Hop) (head : Head) → IsAllowed request hop head
    → IsSameRedirect request (permitted_view request hop head) head

-- What following a redirect rests on is the same: the status, and the values of Location and Referrer-Policy.
pub record LeadsAlike (view head : Head) : Type 0 where
  pub status : view.status ≡ head.status
  pub location : values_of (codes "Location") view.headers ≡ values_of (codes "Location") head.headers
  pub policy : values_of (codes "Referrer-Policy") view.headers ≡ values_of (codes "Referrer-Policy") head.headers

-- this holds of an allowed head that is a redirect that is followed, and of its view
abbrev pub KeepsTarget : Type 0
KeepsTarget =
    (request : Request) (hop : Hop) (head : Head) → IsAllowed request hop head → IsTrue (is_followed request head)
    → LeadsAlike (permitted_view request hop head) head

-- a response has the filtered response of its view
abbrev pub KeepsFiltered : Type 0
KeepsFiltered =
    (request : Request) (hop : Hop) (head : Head) → IsResponse request hop head
    → let view = permitted_view request hop head in
    filtered request view (is_manual request view) ≡ filtered request head (is_manual request head)

-- What a response is blocked for is the same: its MIME type and nosniff.
pub record IsSameBlock (request : Request) (view head : Head) : Type 0 where
  pub kind : is_type_blocked request.destination view.headers ≡ is_type_blocked request.destination head.headers
  pub nosniff : is_nosniff_blocked request.destination view.headers
      ≡ is_nosniff_blocked request.destination head.headers

-- this holds of a response and its view, where the redirect mode is follow or the destination that of a `fetch`
abbrev pub KeepsBlocking : Type 0
KeepsBlocking =
    (request : Request) (hop : Hop) (head : Head) → IsResponse request hop head
    → IsTrue (follows_or_fetches request) → IsSameBlock request (permitted_view request hop head) head

-- What reading a body rests on is the same: the status, and the values of Content-Encoding.
pub record HasSameBody (view head : Head) : Type 0 where
  pub status : view.status ≡ head.status
  pub coding : values_of (codes "Content-Encoding") view.headers ≡ values_of (codes "Content-Encoding") head.headers

-- this holds of a response that is neither opaque nor an opaque-redirect one, and of its view
abbrev pub KeepsBody : Type 0
KeepsBody =
    (request : Request) (hop : Hop) (head : Head) → IsResponse request hop head
    → IsTrue (not (is_manual request head)) → IsTrue (not (is_opaque_tainted request.tainting))
    → HasSameBody (permitted_view request hop head) head
