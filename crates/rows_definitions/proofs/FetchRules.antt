-- The definitions computed on worked examples: requests of documents at http://a.test and https://a.test.
use Rattle.std.proofs.Common.{◌≡◌, refl, ℕ, List, [], ◌∷◌, true, false, codes, Option, Some, None}
use Rattle.url.proofs.OnLiterals.{url_on_literals}
use Rattle.url.specs.declared.host.Host.{Host}
use Rattle.url.specs.declared.host.Host.TheVariants.{Domain, Ipv4}
use Rattle.url.specs.Parts.{Parts}
use Rattle.book_calls.specs.declared.op.Op.TheVariants.{Match, Note}
use Rattle.value_headers.specs.declared.headers.Header.{Header}
use Rattle.value_origins.specs.Origins.{tuple_origin}
use Rattle.value_requests.specs.declared.client.Client.{Client}
use Rattle.value_requests.specs.declared.error.NetError.TheVariants as error
use Rattle.value_requests.specs.declared.hop.Head.{Head}
use Rattle.value_requests.specs.declared.mode.Credentials.TheVariants as credentials
use Rattle.value_requests.specs.declared.mode.Mode.TheVariants as mode
use Rattle.value_requests.specs.declared.mode.RedirectMode.TheVariants as redirect
use Rattle.value_requests.specs.declared.mode.ReferrerPolicy.TheVariants as policy
use Rattle.value_requests.specs.declared.mode.Tainting.TheVariants as tainting
use Rattle.value_requests.specs.declared.policy.Destination.TheVariants.{Fetch, Image}
use Rattle.value_requests.specs.declared.request.Referrer.TheVariants.{Client as TheClient}
use Rattle.value_requests.specs.declared.request.Request.{Request}
use Rattle.value_requests.specs.Clients.{client_of}
use Rattle.value_requests.specs.Lines.{header}
use Rattle.fetch_rules.specs.declared.switch.Switch.TheVariants.{Fetches, Preflights, Refuses}
use Rattle.fetch_rules.specs.Blocking.{refusal_before}
use Rattle.fetch_rules.specs.KnownHosts.{match_of, note_of}
use Rattle.value_requests.specs.ReferrerPolicies.{policy_or}
use Rattle.fetch_rules.specs.Switch.{switch_of}
use Rattle.fetch_rules.specs.Upgrading.{mixed_upgraded, secured, with_https}

-- SCHEME://HOST:PORT/
abbrev at : List ℕ → Host (List ℕ) → Option ℕ → Parts
at scheme host port = record {
  scheme = scheme;
  username = [];
  password = [];
  host = Some host;
  port = port;
  path = codes "/";
  query = None;
  fragment = None;
}

abbrev insecure : List ℕ → Parts
insecure name = at (codes "http") (Domain name) None

abbrev secure : List ℕ → Parts
secure name = at (codes "https") (Domain name) None

abbrev client : Parts → Client
client url = client_of url url policy.Origin

-- GET of a URL in mode cors by a script of the document at http://a.test/
abbrev get : Parts → Request
get url = record {
  method = codes "GET";
  urls = url ∷ [];
  headers = [];
  body = None;
  origin = tuple_origin (insecure (codes "a.test"));
  mode = mode.Cors;
  credentials = credentials.SameOrigin;
  redirect = redirect.Follow;
  referrer = TheClient;
  policy = policy.Empty;
  integrity = [];
  nonce = [];
  parser = false;
  unsafe_request = true;
  use_preflight = false;
  destination = Fetch;
  tainting = tainting.Basic;
  redirects = 0;
}

abbrev head : List Header → Head
head headers = record { status = 200; headers = headers }

-- a port 443 goes with the scheme http, and another stays
ports : (with_https (at (codes "http") (Domain (codes "a.test")) (Some 443)) ≡ secure (codes "a.test"))
    × (with_https (at (codes "http") (Domain (codes "a.test")) (Some 81))
    ≡ at (codes "https") (Domain (codes "a.test")) (Some 81))
    × (with_https (secure (codes "a.test")) ≡ secure (codes "a.test"))
unfolding url_on_literals
ports = (refl, refl, refl)

-- the last of two URLs is made an https one
last_url : (secured (record (get (insecure (codes "a.test"))) {
  urls = insecure (codes "a.test") ∷ insecure (codes "b.test") ∷ [];
})).urls ≡ insecure (codes "a.test") ∷ secure (codes "b.test") ∷ []
unfolding url_on_literals
last_url = refl

-- the port is looked at first
refused : (refusal_before (client (secure (codes "a.test"))) (get (insecure (codes "a.test"))) ≡ Some error.Mixed)
    × (refusal_before (client (secure (codes "a.test"))) (get (at (codes "http") (Domain (codes "a.test")) (Some 25)))
    ≡ Some error.BadPort)
    × (refusal_before (client (insecure (codes "a.test"))) (get (insecure (codes "b.test"))) ≡ None)
    × (refusal_before (client (secure (codes "a.test"))) (get (insecure (codes "localhost"))) ≡ None)
unfolding url_on_literals
refused = (refl, refl, refl, refl)

-- which hosts are asked for
asked : (match_of 7 (get (insecure (codes "a.test"))) ≡ Some (Match (codes "a.test") 7))
    × (match_of 7 (get (insecure (codes "a.test."))) ≡ Some (Match (codes "a.test.") 7))
    × (match_of 7 (get (secure (codes "a.test"))) ≡ None)
    × (match_of 7 (get (insecure (codes "localhost"))) ≡ None)
    × (match_of 7 (get (insecure (codes "x.localhost."))) ≡ None)
    × (match_of 7 (get (at (codes "http") (Ipv4 (record { octets = 10 ∷ 0 ∷ 0 ∷ 1 ∷ [] })) None)) ≡ None)
unfolding url_on_literals
asked = (refl, refl, refl, refl, refl, refl)

abbrev sts : List ℕ → Header
sts value = header (codes "strict-transport-security") value

-- two fields, of which the first counts
abbrev two : Head
two = head (sts (codes "max-age=10") ∷ sts (codes "max-age=0") ∷ [])

-- what is noted, and of which hosts
noted : (note_of 7 (get (secure (codes "a.test"))) two
    ≡ Some (Note (codes "a.test") (record { age = 10; subdomains = false }) 7))
    × (note_of 7 (get (insecure (codes "a.test"))) two ≡ None)
    × (note_of 7 (get (secure (codes "localhost"))) two ≡ None)
    × (note_of 7 (get (secure (codes "a.test"))) (head (sts (codes "x") ∷ sts (codes "max-age=0") ∷ [])) ≡ None)
    × (note_of 7 (get (secure (codes "a.test"))) (head []) ≡ None)
unfolding url_on_literals
noted = (refl, refl, refl, refl, refl)

-- at home and away, by the mode
by_mode : (switch_of (get (insecure (codes "a.test"))) ≡ Fetches tainting.Basic)
    × (switch_of (record (get (insecure (codes "a.test"))) { tainting = tainting.Cors }) ≡ Fetches tainting.Cors)
    × (switch_of (record (get (secure (codes "a.test"))) { mode = mode.SameOrigin }) ≡ Refuses error.SameOriginMode)
    × (switch_of (record (get (secure (codes "a.test"))) { mode = mode.NoCors }) ≡ Fetches tainting.Opaque)
    × (switch_of (record (get (secure (codes "a.test"))) { mode = mode.NoCors; redirect = redirect.Manual })
    ≡ Refuses error.NoCorsRedirectMode)
    × (switch_of (get (secure (codes "a.test"))) ≡ Fetches tainting.Cors)
unfolding url_on_literals
by_mode = (refl, refl, refl, refl, refl, refl)

-- which requests ask the server first
by_flags : (switch_of (record (get (insecure (codes "b.test"))) { use_preflight = true }) ≡ Preflights)
    × (switch_of (record (get (insecure (codes "b.test"))) { method = codes "PUT" }) ≡ Preflights)
    × (switch_of (record (get (insecure (codes "b.test"))) { headers = header (codes "X-A") [] ∷ [] }) ≡ Preflights)
    × (switch_of (record (get (insecure (codes "b.test"))) { method = codes "PUT"; unsafe_request = false })
    ≡ Fetches tainting.Cors)
    × (switch_of (record (get (insecure (codes "a.test"))) { method = codes "PUT" }) ≡ Fetches tainting.Basic)
unfolding url_on_literals
by_flags = (refl, refl, refl, refl, refl)

-- an image of http://b.test/
abbrev image : Request
image = record (get (insecure (codes "b.test"))) { destination = Image }

-- an image in a page that is secure is asked for by https, and other content is not
upgrades : (mixed_upgraded (client (secure (codes "a.test"))) image
    ≡ record (get (secure (codes "b.test"))) { destination = Image })
    × (mixed_upgraded (client (secure (codes "a.test"))) (get (insecure (codes "b.test"))) ≡ get (insecure
    (codes "b.test")))
    × (mixed_upgraded (client (insecure (codes "a.test"))) image ≡ image)
unfolding url_on_literals
upgrades = (refl, refl, refl)

-- a policy of its own stays
policies : (policy_or policy.Empty policy.Origin ≡ policy.Origin)
    × (policy_or policy.UnsafeUrl policy.Origin ≡ policy.UnsafeUrl)
policies = (refl, refl)
