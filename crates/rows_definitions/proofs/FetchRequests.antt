-- The definitions computed on worked examples: the faults of requests in their order, the requests of loads, and the
-- head of a PUT.
use Rattle.rows_definitions.proofs.Shared.{get, root}
use Rattle.std.proofs.Common.{◌≡◌, ◌+◌, ◌||◌, refl, ap, ℕ, List, true, false, [], ◌∷◌, codes, Some, None, Ok, Err}
use Rattle.std.specs.Prelude.{nat_lt, replicate}
use Rattle.std.proofs.lemmas.List.{length-replicate}
use Rattle.url.proofs.OnLiterals.{url_on_literals}
use Rattle.url.specs.declared.host.Host.TheVariants.{Domain}
use Rattle.url.specs.Parts.{Parts}
use Rattle.value_requests.specs.declared.client.Client.{Client}
use Rattle.value_requests.specs.declared.client.Cookie.{Cookie}
use Rattle.value_requests.specs.declared.mode.Tainting.TheVariants.{Basic, Cors}
use Rattle.value_requests.specs.declared.request.Referrer.TheVariants.{Address}
use Rattle.value_requests.specs.declared.request.Request.{Request}
use Rattle.value_requests.specs.declared.fault.TypeFault.TheVariants.{BadUrl, UrlCredentials, BadMethod}
use Rattle.value_requests.specs.declared.fault.TypeFault.TheVariants.{ForbiddenMethod}
use Rattle.value_requests.specs.declared.fault.TypeFault.TheVariants.{BodyWithGet, NoCorsMethod, BadHeader}
use Rattle.value_requests.specs.declared.fault.TypeFault.TheVariants.{NavigateMode}
use Rattle.value_requests.specs.declared.init.CrossOrigin.{CrossOrigin}
use Rattle.value_requests.specs.declared.init.CrossOrigin.TheVariants.{Absent, Anonymous, UseCredentials}
use Rattle.value_requests.specs.declared.init.Init.{Init}
use Rattle.value_requests.specs.declared.init.LoadInit.{LoadInit}
use Rattle.value_requests.specs.declared.mode.Credentials.TheVariants as credentials
use Rattle.value_requests.specs.declared.mode.Mode.TheVariants as mode
use Rattle.value_requests.specs.declared.mode.RedirectMode.TheVariants.{Follow}
use Rattle.value_requests.specs.declared.mode.ReferrerPolicy.TheVariants as policy
use Rattle.value_requests.specs.declared.policy.Destination.{Destination}
use Rattle.value_requests.specs.declared.policy.Destination.TheVariants as destination
use Rattle.value_requests.specs.declared.request.Referrer.TheVariants as referrer
use Rattle.value_requests.specs.Clients.{client_of}
use Rattle.fetch_requests.specs.Heads.{head_lines, includes_credentials}
use Rattle.fetch_requests.specs.Loading.{new_load}
use Rattle.value_requests.specs.Lines.{appended_where, header}
use Rattle.fetch_requests.specs.Making.{is_long_body, is_too_long, made, new_request}

-- the client of its document
abbrev pub client : Client
client = client_of root root policy.StrictOriginWhenCrossOrigin

-- a GET of `/x`
abbrev pub asked : Init
asked = get mode.Cors false (codes "/x")

-- a PUT of `/x` with a header and a body, in mode same-origin
abbrev pub put : Init
put = record asked {
  method = codes "put";
  mode = mode.SameOrigin;
  headers = record { name = codes "X-A"; value = codes "1" } ∷ [];
  body = Some (codes "q");
}

-- credentials for the same origin
pub credentials_included : (includes_credentials credentials.SameOrigin Basic ≡ true)
    × (includes_credentials credentials.SameOrigin Cors ≡ false)
credentials_included = (refl, refl)

-- of two faults the earlier one is told
pub faults_in_order : (new_request client (record put { url = codes "http://" }) ≡ Err BadUrl)
    × (new_request client (record put { url = codes "http://u@b.test/"; method = codes "A B" }) ≡ Err UrlCredentials)
    × (new_request client (record put { method = codes "A B" }) ≡ Err BadMethod)
    × (new_request client (record put { method = codes "tRaCe"; mode = mode.NoCors }) ≡ Err ForbiddenMethod)
    × (new_request client (record put { method = codes "get"; mode = mode.Navigate }) ≡ Err BodyWithGet)
    × (new_request client (record put { mode = mode.NoCors; headers = record { name = []; value = [] } ∷ [] })
    ≡ Err NoCorsMethod)
    × (new_request client (record asked {
      mode = mode.Navigate;
      headers = record { name = codes "a"; value = [] }
          ∷ record { name = codes "a b"; value = [] } ∷ [];
    }) ≡ Err (BadHeader 1))
    × (new_request client (record asked { mode = mode.Navigate }) ≡ Err NavigateMode)
unfolding url_on_literals
faults_in_order = (refl, refl, refl, refl, refl, refl, refl, refl)

-- https://a.test/x
abbrev pub target : Parts
target = record root { path = codes "/x" }

-- the request of the PUT
pub put_made : new_request client put ≡ Ok (made client put target)
unfolding url_on_literals
put_made = refl

-- a load of `/x` by an element that a parser inserted
abbrev load : Destination → CrossOrigin → LoadInit
load kind crossorigin = record {
  kind = kind;
  url = codes "/x";
  crossorigin = crossorigin;
  nonce = codes "n";
  integrity = codes "i";
  parser = true;
  referrer_policy = policy.Origin;
}

-- the request of an image without CORS settings
abbrev image : Request
image = record {
  method = codes "GET";
  urls = target ∷ [];
  headers = header (codes "Accept") (codes "image/png,image/svg+xml,image/*;q=0.8,*/*;q=0.5") ∷ [];
  body = None;
  origin = client.origin;
  mode = mode.NoCors;
  credentials = credentials.Include;
  redirect = Follow;
  referrer = referrer.Client;
  policy = policy.Origin;
  integrity = codes "i";
  nonce = codes "n";
  parser = true;
  unsafe_request = false;
  use_preflight = false;
  destination = destination.Image;
  tainting = Basic;
  redirects = 0;
}

-- the request of a font without CORS settings
abbrev font : Request
font = record image {
  headers = header (codes "Accept") (codes "*/*") ∷ [];
  mode = mode.Cors;
  credentials = credentials.SameOrigin;
  destination = destination.Font;
}

-- loads by their kind and their CORS settings; a URL with credentials is no fault
loads : (new_load client (load destination.Image Absent) ≡ Ok image)
    × (new_load client (load destination.Font Absent) ≡ Ok font)
    × (new_load client (load destination.Manifest Absent) ≡ Ok (record font { destination = destination.Manifest }))
    × (new_load client (load destination.Script Anonymous) ≡ Ok (record font { destination = destination.Script }))
    × (new_load client (load destination.Style UseCredentials) ≡ Ok (record image {
      headers = header (codes "Accept") (codes "text/css,*/*;q=0.1") ∷ [];
      mode = mode.Cors;
      destination = destination.Style;
    }))
    × (new_load client (record (load destination.Image Absent) { url = codes "https://u@a.test/x" })
    ≡ Ok (record image { urls = record target { username = codes "u" } ∷ [] }))
    × (new_load client (record (load destination.Image Absent) { url = codes "http://" }) ≡ Err BadUrl)
unfolding url_on_literals
loads = (refl, refl, refl, refl, refl, refl, refl)

-- the head of the PUT
pub put_sent : head_lines [] (made client put target) target
    ≡ header (codes "Host") (codes "a.test")
    ∷ header (codes "X-A") (codes "1")
    ∷ header (codes "Content-Type") (codes "text/plain;charset=UTF-8")
    ∷ header (codes "Accept") (codes "*/*")
    ∷ header (codes "User-Agent") (codes "fetchplay/1")
    ∷ header (codes "Accept-Encoding") (codes "identity")
    ∷ header (codes "Origin") (codes "https://a.test")
    ∷ header (codes "Content-Length") (codes "1")
    ∷ header (codes "Connection") (codes "close")
    ∷ []
unfolding url_on_literals appended_where
put_sent = refl

-- a body of so many letters is too long from 65,537 on, a method from 16,385 on
abbrev letters : ℕ → List ℕ
letters count = replicate count 65

body-of-letters : (count : ℕ) → is_long_body (Some (letters count)) ≡ nat_lt 65536 count
body-of-letters count = ap (nat_lt 65536) (length-replicate count 65)

method-of-letters : (count : ℕ) → is_too_long (record asked { method = letters count })
    ≡ (nat_lt 16384 (count + 0) || false)
method-of-letters count = ap (λ (size : ℕ). nat_lt 16384 (size + 0) || false) (length-replicate count 65)

long_body : (is_long_body (Some (letters 65536)) ≡ false) × (is_long_body (Some (letters 65537)) ≡ true)
long_body = (body-of-letters 65536, body-of-letters 65537)

long_method : (is_too_long (record asked { method = letters 16384 }) ≡ false)
    × (is_too_long (record asked { method = letters 16385 }) ≡ true)
long_method = (method-of-letters 16384, method-of-letters 16385)

-- a GET of another origin, behind the CORS protocol, with credentials and a referrer
abbrev foreign : Parts
foreign = record root {
  host = Some (Domain (codes "b.test"));
  port = Some 8080;
  path = codes "/y";
  query = Some (codes "z");
}

abbrev foreign_get : Request
foreign_get = record (made client asked foreign) {
  referrer = Address root;
  tainting = Cors;
  credentials = credentials.Include;
}

abbrev cookies : List Cookie
cookies = record { origin = codes "https://b.test"; value = codes "a=1" }
    ∷ record { origin = codes "https://b.test:8080"; value = codes "b=2" } ∷ []

foreign_sent : head_lines cookies foreign_get foreign
    ≡ header (codes "Host") (codes "b.test:8080")
    ∷ header (codes "Accept") (codes "*/*")
    ∷ header (codes "User-Agent") (codes "fetchplay/1")
    ∷ header (codes "Accept-Encoding") (codes "identity")
    ∷ header (codes "Referer") (codes "https://a.test/")
    ∷ header (codes "Origin") (codes "https://a.test")
    ∷ header (codes "Cookie") (codes "b=2")
    ∷ header (codes "Connection") (codes "close")
    ∷ []
unfolding url_on_literals appended_where
foreign_sent = refl
