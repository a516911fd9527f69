-- The URLs and the GET that rows of several crates speak of.
use Rattle.std.proofs.Common.{ℕ, Bool, false, List, [], codes, Some, None}
use Rattle.url.specs.declared.host.Host.TheVariants.{Domain}
use Rattle.url.specs.Parts.{Parts}
use Rattle.value_requests.specs.declared.init.Init.{Init}
use Rattle.value_requests.specs.declared.mode.Credentials.TheVariants as credentials
use Rattle.value_requests.specs.declared.mode.Mode.{Mode}
use Rattle.value_requests.specs.declared.mode.RedirectMode.TheVariants as redirect
use Rattle.value_requests.specs.declared.mode.ReferrerPolicy.TheVariants as policy

-- SCHEME://HOSTPATH
abbrev pub url_at : List ℕ → List ℕ → List ℕ → Parts
url_at scheme host path = record {
  scheme = scheme;
  username = [];
  password = [];
  host = Some (Domain host);
  port = None;
  path = path;
  query = None;
  fragment = None;
}

-- https://a.test/
abbrev pub root : Parts
root = url_at (codes "https") (codes "a.test") (codes "/")

-- what a GET asks for in this mode, where nothing else is said but whether its referrer is the client
abbrev pub get : Mode → Bool → List ℕ → Init
get mode client_referrer url = record {
  url = url;
  method = codes "GET";
  mode = mode;
  credentials = credentials.SameOrigin;
  redirect = redirect.Follow;
  headers = [];
  body = None;
  client_referrer = client_referrer;
  referrer_policy = policy.Empty;
  integrity = [];
  upload = false;
}
