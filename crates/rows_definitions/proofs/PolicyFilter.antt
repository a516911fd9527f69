-- The definitions computed on examples that were written down by hand: exposed names, filtered responses, and permitted
-- views of answers to a document at http://a.test.
use Rattle.rows_definitions.proofs.Shared.{url_at}
use Rattle.std.proofs.Common.{◌≡◌, refl, ℕ, List, [], ◌∷◌, true, false, codes, Some, None}
use Rattle.url.proofs.OnLiterals.{url_on_literals}
use Rattle.url.specs.declared.host.Host.TheVariants.{Domain}
use Rattle.url.specs.Parts.{Parts}
use Rattle.value_headers.specs.declared.headers.Header.{Header}
use Rattle.value_origins.specs.Origins.{tuple_origin}
use Rattle.value_requests.specs.declared.hop.Head.{Head}
use Rattle.value_requests.specs.declared.hop.Hop.{Hop}
use Rattle.value_requests.specs.declared.mode.Credentials.TheVariants as credentials
use Rattle.value_requests.specs.declared.mode.Mode.TheVariants as mode
use Rattle.value_requests.specs.declared.mode.RedirectMode.{RedirectMode}
use Rattle.value_requests.specs.declared.mode.RedirectMode.TheVariants as redirect
use Rattle.value_requests.specs.declared.mode.ReferrerPolicy.TheVariants as policy
use Rattle.value_requests.specs.declared.mode.Tainting.{Tainting}
use Rattle.value_requests.specs.declared.mode.Tainting.TheVariants as tainting
use Rattle.value_requests.specs.declared.policy.Destination.TheVariants as destination
use Rattle.value_requests.specs.declared.request.Referrer.TheVariants.{NoReferrer}
use Rattle.value_requests.specs.declared.request.Request.{Request}
use Rattle.value_requests.specs.declared.response.BodyEnd.TheVariants.{Null}
use Rattle.value_requests.specs.declared.response.ResponseKind.TheVariants as kind
use Rattle.value_requests.specs.Lines.{header}
use Rattle.policy_filter.specs.Exposed.{exposed_names}
use Rattle.policy_filter.specs.Filtered.{filtered}
use Rattle.policy_filter.specs.Views.{permitted_view}

-- http://HOST/
abbrev at : List ℕ → Parts
at host = url_at (codes "http") host (codes "/")

-- a request of the document for http://b.test/, of this tainting and redirect mode
abbrev asked : Tainting → RedirectMode → Request
asked tainting redirect = record {
  method = codes "GET";
  urls = at (codes "b.test") ∷ [];
  headers = [];
  body = None;
  origin = tuple_origin (at (codes "a.test"));
  mode = mode.Cors;
  credentials = credentials.Omit;
  redirect = redirect;
  referrer = NoReferrer;
  policy = policy.NoReferrer;
  integrity = [];
  nonce = [];
  parser = false;
  unsafe_request = false;
  use_preflight = false;
  destination = destination.Fetch;
  tainting = tainting;
  redirects = 0;
}

-- the request as it is sent
abbrev sent : Hop
sent = record {
  preflight = false;
  origin = codes "http://b.test";
  url = codes "/";
  method = codes "GET";
  headers = [];
  body = None;
}

-- a head
abbrev head : ℕ → List Header → Head
head status headers = record { status = status; headers = headers }

-- an answer that exposes two names
abbrev exposing : List Header
exposing =
    header (codes "Access-Control-Allow-Origin") (codes "*")
    ∷ header (codes "Access-Control-Expose-Headers") (codes "x-a, set-cookie") ∷ header (codes "X-A") (codes "1")
    ∷ header (codes "X-B") (codes "2") ∷ header (codes "Set-Cookie") (codes "c=1") ∷ []

-- the one that is not forbidden is in the CORS filtered response
exposed_header : (filtered (asked tainting.Cors redirect.Follow) (head 200 exposing) false).headers
    ≡ header (codes "X-A") (codes "1") ∷ []
exposed_header = refl

-- all names, each once
abbrev starred : List Header
starred =
    header (codes "X-A") (codes "1") ∷ header (codes "Access-Control-Expose-Headers") (codes "y, *")
    ∷ header (codes "X-A") (codes "2") ∷ []

star : (exposed_names false starred ≡ codes "X-A" ∷ codes "Access-Control-Expose-Headers" ∷ [])
    × (exposed_names true starred ≡ codes "y" ∷ codes "*" ∷ []) × (exposed_names false [] ≡ [])
star = (refl, refl, refl)

-- a redirect that is followed, in a basic response
moved : permitted_view (asked tainting.Basic redirect.Follow) sent
    (head 307
    (header (codes "Location") (codes "/x") ∷ header (codes "X-A") (codes "1")
    ∷ header (codes "referrer-policy") (codes "origin")
    ∷ header (codes "Strict-Transport-Security") (codes "max-age=1") ∷ []))
    ≡ head 307
    (header (codes "Location") (codes "/x") ∷ header (codes "referrer-policy") (codes "origin")
    ∷ header (codes "Strict-Transport-Security") (codes "max-age=1") ∷ [])
moved = refl

-- one that is not followed tells neither its status nor where it leads
kept_back : permitted_view (asked tainting.Basic redirect.Manual) sent
    (head 307 (header (codes "Location") (codes "/x") ∷ []))
    ≡ head 302 []
kept_back = refl

-- an opaque response tells neither its status nor its headers, and is filtered to one of status 0
opaque : (permitted_view (asked tainting.Opaque redirect.Follow) sent
    (head 204 (header (codes "X-Secret") (codes "2") ∷ [])) ≡ head 200 [])
    × (filtered (asked tainting.Opaque redirect.Follow) (head 204 (header (codes "X-Secret") (codes "2") ∷ [])) false
    ≡ record { kind = kind.Opaque; status = 0; url = None; headers = []; body = Null })
opaque = (refl, refl)

-- the CORS check fails: whether it is a redirect is not told
refused : permitted_view (asked tainting.Cors redirect.Follow) sent
    (head 302
    (header (codes "Access-Control-Allow-Origin") (codes "http://x.test")
    ∷ header (codes "Location") (codes "/x") ∷ []))
    ≡ head 200 (header (codes "Access-Control-Allow-Origin") (codes "http://x.test") ∷ [])
unfolding url_on_literals
refused = refl
