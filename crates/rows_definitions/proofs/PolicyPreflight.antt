-- The definitions computed on worked examples: a request of a document at http://a.test for http://b.test/x, and the
-- answers to it and to its preflight.
use Rattle.rows_definitions.proofs.Shared.{url_at}
use Rattle.std.proofs.Common.{◌≡◌, refl, ℕ, List, [], ◌∷◌, true, false, codes, Some, None}
use Rattle.url.proofs.OnLiterals.{url_on_literals}
use Rattle.url.specs.declared.host.Host.TheVariants.{Domain}
use Rattle.url.specs.Parts.{Parts}
use Rattle.value_headers.specs.declared.headers.Header.{Header}
use Rattle.value_origins.specs.Origins.{tuple_origin}
use Rattle.value_requests.specs.declared.error.NetError.TheVariants as error
use Rattle.value_requests.specs.declared.mode.Credentials.TheVariants as credentials
use Rattle.value_requests.specs.declared.mode.Mode.TheVariants as mode
use Rattle.value_requests.specs.declared.mode.RedirectMode.TheVariants.{Follow}
use Rattle.value_requests.specs.declared.mode.ReferrerPolicy.TheVariants as policy
use Rattle.value_requests.specs.declared.mode.Tainting.TheVariants.{Cors}
use Rattle.value_requests.specs.declared.policy.Destination.TheVariants.{Fetch}
use Rattle.value_requests.specs.declared.request.Referrer.TheVariants.{Address}
use Rattle.value_requests.specs.declared.request.Request.{Request}
use Rattle.policy_checks.specs.CorsCheck.{passes_cors_check}
use Rattle.value_requests.specs.Lines.{appended_where, header}
use Rattle.policy_checks.specs.ResourcePolicy.{corp_blocks}
use Rattle.policy_preflight.specs.declared.answer.Checked.{Checked}
use Rattle.policy_preflight.specs.declared.answer.Checked.TheVariants.{Pass, Refused}
use Rattle.policy_preflight.specs.Preflight.{preflight_of}
use Rattle.policy_preflight.specs.Verdict.{verdict}

-- http://HOST/PATH
abbrev at : List ℕ → List ℕ → Parts
at host path = url_at (codes "http") host path

abbrev home : Parts
home = at (codes "a.test") (codes "/")

abbrev away : Parts
away = at (codes "b.test") (codes "/x")

abbrev origin : List ℕ
origin = codes "http://a.test"

-- PUT of another origin
abbrev put : Request
put = record {
  method = codes "PUT";
  urls = away ∷ [];
  headers = [];
  body = None;
  origin = tuple_origin home;
  mode = mode.Cors;
  credentials = credentials.SameOrigin;
  redirect = Follow;
  referrer = Address home;
  policy = policy.StrictOriginWhenCrossOrigin;
  integrity = [];
  nonce = [];
  parser = false;
  unsafe_request = true;
  use_preflight = false;
  destination = Fetch;
  tainting = Cors;
  redirects = 0;
}

-- GET with Authorization
abbrev authorized : Request
authorized = record put { method = codes "GET"; headers = header (codes "authorization") (codes "x") ∷ [] }

-- `Access-Control-Allow-Origin: *`
abbrev any_origin : Header
any_origin = header (codes "Access-Control-Allow-Origin") (codes "*")

-- the verdict for the PUT on an answer of this status and these headers
abbrev on_put : ℕ → List Header → Checked
on_put status headers = verdict put origin [] (record { status = status; headers = headers })

-- the verdict for the GET with Authorization on an answer that allows any origin and these header names
abbrev on_authorized : List ℕ → Checked
on_authorized names =
    verdict authorized origin (codes "authorization" ∷ [])
    (record { status = 200; headers = any_origin ∷ header (codes "access-control-allow-headers") names ∷ [] })

-- `*` is enough without credentials only; with them the origin is to be named
computes-cors_check : (passes_cors_check origin false (any_origin ∷ []) ≡ true)
    × (passes_cors_check origin true
    (any_origin ∷ header (codes "Access-Control-Allow-Credentials") (codes "true") ∷ []) ≡ false)
    × (passes_cors_check origin true (header (codes "Access-Control-Allow-Origin") origin ∷ header
    (codes "Access-Control-Allow-Credentials") (codes "true") ∷ []) ≡ true)
    × (passes_cors_check origin false (any_origin ∷ any_origin ∷ []) ≡ false)
computes-cors_check = (refl, refl, refl, refl)

-- a policy with other values than the three blocks nothing
computes-corp_blocks : (corp_blocks (tuple_origin home) (tuple_origin away) (header
    (codes "Cross-Origin-Resource-Policy") (codes "same-origin") ∷ []) ≡ true)
    × (corp_blocks (tuple_origin home) (tuple_origin away) (header
    (codes "Cross-Origin-Resource-Policy") (codes "same-origin, cross-origin") ∷ []) ≡ false)
unfolding url_on_literals
computes-corp_blocks = (refl, refl)

-- each check in its order, and what is learned of a PUT
computes-verdict : (on_put 404 (any_origin ∷ []) ≡ Refused error.PreflightStatus)
    × (on_put 404 [] ≡ Refused error.PreflightCors)
    × (on_put 200 (any_origin ∷ header (codes "Access-Control-Allow-Methods") (codes "A B") ∷ [])
    ≡ Refused error.PreflightList)
    × (on_put 200 (any_origin ∷ header (codes "Access-Control-Allow-Methods") (codes "put") ∷ [])
    ≡ Refused error.PreflightMethod)
    × (on_put 204 (any_origin ∷ header (codes "Access-Control-Allow-Methods") (codes "PUT") ∷ [])
    ≡ Pass 5 (codes "PUT" ∷ []) [])
    × (on_put 204 (any_origin ∷ header (codes "Access-Control-Allow-Methods") (codes "*") ∷ header
    (codes "Access-Control-Max-Age") (codes "7201") ∷ []) ≡ Pass 7200 (codes "*" ∷ []) [])
computes-verdict = (refl, refl, refl, refl, refl, refl)

-- `*` does not cover Authorization
computes-authorization : (on_authorized (codes "*") ≡ Refused (error.PreflightHeader (codes "authorization")))
    × (on_authorized (codes "*, Authorization") ≡ Pass 5 [] (codes "*" ∷ codes "Authorization" ∷ []))
computes-authorization = (refl, refl)

-- the preflight of the PUT
computes-preflight : preflight_of put (codes "x-a" ∷ codes "x-b" ∷ []) ≡ record {
  preflight = true;
  origin = codes "http://b.test";
  url = codes "/x";
  method = codes "OPTIONS";
  headers = header (codes "Host") (codes "b.test")
      ∷ header (codes "Accept") (codes "*/*")
      ∷ header (codes "Access-Control-Request-Method") (codes "PUT")
      ∷ header (codes "Access-Control-Request-Headers") (codes "x-a,x-b")
      ∷ header (codes "User-Agent") (codes "fetchplay/1")
      ∷ header (codes "Accept-Encoding") (codes "identity")
      ∷ header (codes "Referer") (codes "http://a.test/")
      ∷ header (codes "Origin") (codes "http://a.test")
      ∷ header (codes "Connection") (codes "close")
      ∷ [];
  body = None;
}
unfolding url_on_literals appended_where
computes-preflight = refl
