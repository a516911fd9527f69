-- The definitions computed on examples that were written down by hand: requests of a document at http://a.test.
use Rattle.rows_definitions.proofs.Shared.{url_at}
use Rattle.std.proofs.Common.{◌≡◌, refl, ℕ, List, [], ◌∷◌, true, false, codes, Some, None}
use Rattle.url.proofs.OnLiterals.{url_on_literals}
use Rattle.url.specs.declared.host.Host.TheVariants.{Domain}
use Rattle.url.specs.Parts.{Parts}
use Rattle.value_headers.specs.declared.headers.Header.{Header}
use Rattle.value_origins.specs.Origins.{tuple_origin}
use Rattle.value_requests.specs.declared.error.NetError.TheVariants.{BadLocation, Coding, CorsCheck, CspResponse}
use Rattle.value_requests.specs.declared.error.NetError.TheVariants.{Integrity}
use Rattle.value_requests.specs.declared.error.NetError.TheVariants.{Mime, NoSniff, RedirectCredentials, RedirectMode}
use Rattle.value_requests.specs.declared.error.NetError.TheVariants.{RedirectScheme, TooManyRedirects}
use Rattle.value_requests.specs.declared.hop.Head.{Head}
use Rattle.value_requests.specs.declared.mode.Credentials.TheVariants as credentials
use Rattle.value_requests.specs.declared.mode.Mode.TheVariants as mode
use Rattle.value_requests.specs.declared.mode.RedirectMode.TheVariants as redirect
use Rattle.value_requests.specs.declared.mode.ReferrerPolicy.TheVariants as policy
use Rattle.value_requests.specs.declared.mode.Tainting.{Tainting}
use Rattle.value_requests.specs.declared.mode.Tainting.TheVariants as tainting
use Rattle.value_requests.specs.declared.policy.Destination.TheVariants as destination
use Rattle.value_requests.specs.declared.request.Referrer.TheVariants.{NoReferrer}
use Rattle.value_requests.specs.declared.request.Request.{Request}
use Rattle.value_requests.specs.declared.response.BodyEnd.TheVariants.{Cut, Whole}
use Rattle.value_requests.specs.declared.response.Outcome.TheVariants.{Answer, Error, Loaded}
use Rattle.value_requests.specs.Lines.{header}
use Rattle.fetch_answers.specs.declared.answers.Ended.TheVariants.{Over}
use Rattle.fetch_answers.specs.declared.answers.Redirection.TheVariants.{Stays, Refuses, Goes}
use Rattle.fetch_answers.specs.Bodies.{is_coded}
use Rattle.fetch_answers.specs.Endings.{after_body, ended, response_of}
use Rattle.fetch_answers.specs.Following.{redirected_request}
use Rattle.fetch_answers.specs.Judging.{refusal_after}
use Rattle.fetch_answers.specs.Redirects.{redirection}

-- http://HOST and a path
abbrev at : List ℕ → List ℕ → Parts
at host path = url_at (codes "http") host path

-- a POST of the document to http://b.test/x, of this tainting
abbrev asked : Tainting → Request
asked tainting = record {
  method = codes "POST";
  urls = at (codes "b.test") (codes "/x") ∷ [];
  headers = header (codes "Content-Type") (codes "a/b") ∷ header (codes "authorization") (codes "x") ∷ [];
  body = Some (codes "hi");
  origin = tuple_origin (at (codes "a.test") (codes "/"));
  mode = mode.Cors;
  credentials = credentials.Omit;
  redirect = redirect.Follow;
  referrer = NoReferrer;
  policy = policy.NoReferrer;
  integrity = [];
  nonce = [];
  parser = false;
  unsafe_request = false;
  use_preflight = false;
  destination = destination.Fetch;
  tainting = tainting;
  redirects = 0;
}

-- a head
abbrev head : ℕ → List Header → Head
head status headers = record { status = status; headers = headers }

-- a redirect to a text
abbrev to : List ℕ → Head
to text = head 302 (header (codes "location") text ∷ [])

-- ---- refusals

-- without Access-Control-Allow-Origin a redirect in redirect mode error is refused for the CORS check
refused : refusal_after (record (asked tainting.Cors) { redirect = redirect.Error }) (to (codes "/y")) ≡ Some CorsCheck
unfolding url_on_literals
refused = refl

error_mode : refusal_after (record (asked tainting.Basic) { redirect = redirect.Error }) (to (codes "/y"))
    ≡ Some RedirectMode
error_mode = refl

-- ---- redirects

-- the request, redirected so often
abbrev after : ℕ → Request
after count = record (asked tainting.Cors) { redirects = count }

-- the same URL with a fragment
abbrev with_f : List ℕ → Parts
with_f path = record (at (codes "b.test") path) { fragment = Some (codes "f") }

-- against the current URL, whose fragment goes along
along : redirection (record (after 0) { urls = with_f (codes "/x") ∷ [] }) (to (codes "y")) ≡ Goes (with_f (codes "/y"))
unfolding url_on_literals
along = refl

-- the scheme is looked at before the count, and the count before the credentials
order : (redirection (after 20) (to (codes "ftp://u@c.test/")) ≡ Refuses RedirectScheme)
    × (redirection (after 20) (to (codes "http://u@c.test/")) ≡ Refuses TooManyRedirects)
    × (redirection (after 19) (to (codes "http://u@c.test/")) ≡ Refuses RedirectCredentials)
    × (redirection (after 19) (to (codes "http://c.test/")) ≡ Goes (at (codes "c.test") (codes "/")))
unfolding url_on_literals
order = (refl, refl, refl, refl)

-- a Location
abbrev location : Header
location = header (codes "Location") (codes "/")

-- two of them, one that is no URL, none, and another status
locations : (redirection (after 0) (head 301 (location ∷ location ∷ [])) ≡ Refuses BadLocation)
    × (redirection (after 0) (to (codes "http://:x/")) ≡ Refuses BadLocation)
    × (redirection (after 0) (head 301 []) ≡ Stays) × (redirection (after 0) (head 300 (location ∷ [])) ≡ Stays)
unfolding url_on_literals
locations = (refl, refl, refl, refl)

-- ---- the request after

-- 302 turns POST to GET; at another origin Authorization is gone; the answer's policy holds
turned : redirected_request (asked tainting.Cors)
    (head 302 (header (codes "Referrer-Policy") (codes "origin, x") ∷ [])) (at (codes "c.test") (codes "/"))
    ≡ record (asked tainting.Cors) {
      method = codes "GET";
      urls = at (codes "b.test") (codes "/x") ∷ at (codes "c.test") (codes "/") ∷ [];
      headers = [];
      body = None;
      policy = policy.Origin;
      redirects = 1;
    }
unfolding url_on_literals
turned = refl

-- 307 changes nothing of it, nor does a redirect to the same origin
unturned : redirected_request (asked tainting.Cors) (head 307 []) (at (codes "b.test") (codes "/y"))
    ≡ record (asked tainting.Cors) {
      urls = at (codes "b.test") (codes "/x") ∷ at (codes "b.test") (codes "/y") ∷ [];
      redirects = 1;
    }
unfolding url_on_literals
unturned = refl

-- the method after a redirect of this status
abbrev method_after : ℕ → List ℕ → List ℕ
method_after status method =
    (redirected_request (record (after 0) { method = method }) (head status []) (with_f (codes "/y"))).method

-- 303 turns PUT to GET, and leaves HEAD; 301 leaves PUT
see_other : (method_after 303 (codes "PUT") ≡ codes "GET") × (method_after 303 (codes "HEAD") ≡ codes "HEAD")
    × (method_after 301 (codes "PUT") ≡ codes "PUT") × (method_after 301 (codes "POST") ≡ codes "GET")
unfolding url_on_literals
see_other = (refl, refl, refl, refl)

-- ---- the end

codings : (is_coded (head 200 (header (codes "Content-Encoding") (codes ", identity,") ∷ [])) ≡ false)
    × (is_coded (head 200 (header (codes "Content-Encoding") (codes "Identity") ∷ [])) ≡ true)
    × (is_coded (head 200 (header (codes "Content-Encoding") (codes "identity, gzip") ∷ [])) ≡ true)
codings = (refl, refl, refl)

-- the load of a script
abbrev script : Request
script = record (asked tainting.Opaque) { method = codes "GET"; destination = destination.Script }

-- an answer of this type that says nosniff
abbrev typed : List ℕ → Head
typed kind =
    head 200 (header (codes "Content-Type") kind ∷ header (codes "X-Content-Type-Options") (codes "nosniff") ∷ [])

-- of three that apply the first decides
blocked : (ended true script (typed (codes "image/png")) ≡ Over (Error CspResponse))
    × (ended false script (typed (codes "image/png")) ≡ Over (Error Mime))
    × (ended false script (typed (codes "a/b")) ≡ Over (Error NoSniff))
    × (ended false script (typed (codes "text/javascript")) ≡ Over Loaded)
blocked = (refl, refl, refl, refl)

-- a `fetch` with an integrity text
abbrev checked : Request
checked = record (asked tainting.Cors) { integrity = codes "x" }

-- a body that is null has no integrity; one that is coded is not read
bodies : (ended false checked (head 204 []) ≡ Over (Error Integrity))
    × (ended false checked (head 200 (header (codes "Content-Encoding") (codes "gzip") ∷ [])) ≡ Over (Error Coding))
    × (let opaque = asked tainting.Opaque in
    ended false opaque (head 200 []) ≡ Over (Answer (response_of opaque (head 200 []))))
bodies = (refl, refl, refl)

-- a body that was cut has no integrity either, whatever the text, and a text without metadata lets a whole one through
cut : (after_body checked (response_of checked (head 200 [])) (Cut 2) ≡ Error Integrity)
    × (after_body checked (response_of checked (head 200 [])) (Whole (codes "abc"))
    ≡ Answer (record (response_of checked (head 200 [])) { body = Whole (codes "abc") }))
unfolding url_on_literals
cut = (refl, refl)
