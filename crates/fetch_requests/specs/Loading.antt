-- The request that an element makes which loads a resource (HTML, section 2.5.1 "create a potential-CORS
-- request"), or why it makes none: its text gives no URL, or is too long.
use Rattle.std.specs.Prelude.{Bool, true, false, List, [], ◌∷◌, codes, Option, Some, None, Result, Ok, Err}
use Rattle.std.specs.Prelude.{if◌then◌else◌}
use Rattle.value_requests.specs.declared.mode.Credentials.TheVariants as credentials
use Rattle.value_requests.specs.declared.mode.Mode.TheVariants as mode
use Rattle.value_requests.specs.declared.policy.Destination.TheVariants as destination
use Rattle.value_requests.specs.declared.request.Referrer.TheVariants as referrer
use Rattle.fetch_requests.specs.Words.{Absent, Anonymous, Basic, Client, Credentials, CrossOrigin, Destination}
use Rattle.fetch_requests.specs.Words.{Follow, Header, LoadInit, Mode, Parts, Request, TypeFault, UseCredentials}
use Rattle.fetch_requests.specs.Making.{accept_value, unless_there, url_given}

-- ---- the CORS settings

-- a kind that is only ever fetched in mode cors: fonts (CSS Fonts 4, "font fetching requirements") and manifests
-- (HTML, section 4.6.7 "link types")
abbrev pub is_always_cors : Destination → Bool
is_always_cors destination.Font = true
is_always_cors destination.Manifest = true
is_always_cors _ = false

-- the state of the CORS settings attribute that counts: the element's, and `anonymous` where it has none and its
-- kind is always fetched in mode cors
abbrev pub settings_of : Destination → CrossOrigin → CrossOrigin
settings_of kind Absent = if is_always_cors kind then Anonymous else Absent
settings_of kind Anonymous = Anonymous
settings_of kind UseCredentials = UseCredentials

-- the mode: no-cors for an element without the attribute, and else cors
abbrev pub mode_of : CrossOrigin → Mode
mode_of Absent = mode.NoCors
mode_of _ = mode.Cors

-- the credentials mode: same-origin for `anonymous`, and else include
abbrev pub credentials_of : CrossOrigin → Credentials
credentials_of Anonymous = credentials.SameOrigin
credentials_of _ = credentials.Include

-- ---- the request

-- the header list of the request: Accept alone, by the kind
abbrev pub load_headers : Destination → List Header
load_headers kind = unless_there (codes "Accept") (accept_value kind) []

-- the request of a load for a URL
abbrev pub made_load : Client → LoadInit → Parts → Request
made_load client init url = record {
  method = codes "GET";
  urls = url ∷ [];
  headers = load_headers init.kind;
  body = None;
  origin = client.origin;
  mode = mode_of (settings_of init.kind init.crossorigin);
  credentials = credentials_of (settings_of init.kind init.crossorigin);
  redirect = Follow;
  referrer = referrer.Client;
  policy = init.referrer_policy;
  integrity = init.integrity;
  nonce = init.nonce;
  parser = init.parser;
  unsafe_request = false;
  use_preflight = false;
  destination = init.kind;
  tainting = Basic;
  redirects = 0;
}

-- the request for a URL, where there is one
abbrev pub load_for : Client → LoadInit → Result Parts TypeFault → Result Request TypeFault
load_for client init (Err fault) = Err fault
load_for client init (Ok url) = Ok (made_load client init url)

-- the request of a load, or its fault
abbrev pub new_load : Client → LoadInit → Result Request TypeFault
new_load client init = load_for client init (url_given client init.url)
