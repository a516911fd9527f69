-- Requests: their current URL (Fetch, section 2.2.5), and which values of these types are requests and clients.
use Rattle.std.specs.Prelude.{ℕ, ◌&&◌, Bool, true, false, ◌≤◌, List, [], ◌∷◌, None, unwrap_or, IsTrue}
use Rattle.std.specs.List.{last_or}
use Rattle.url.specs.Parts.{Parts}
use Rattle.value_origins.specs.Origins.{is_http}
use Rattle.value_text.specs.Tokens.{is_token}
use Rattle.value_requests.specs.declared.client.Client.{Client}
use Rattle.value_requests.specs.declared.mode.ReferrerPolicy.{ReferrerPolicy}
use Rattle.value_requests.specs.declared.mode.ReferrerPolicy.TheVariants as policy
use Rattle.value_requests.specs.declared.request.Referrer.{Referrer}
use Rattle.value_requests.specs.declared.request.Referrer.TheVariants.{NoReferrer, Client as TheClient, Address}
use Rattle.value_requests.specs.declared.request.Request.{Request}

-- what stands for a URL where a list has none
abbrev pub no_url : Parts
no_url = record {
  scheme = [];
  username = [];
  password = [];
  host = None;
  port = None;
  path = [];
  query = None;
  fragment = None;
}

-- "current URL": the last of the URL list, which is never empty in a request
abbrev pub current_url : Request → Parts
current_url request = unwrap_or (last_or None request.urls) no_url

-- the URL is http or https, and so has a tuple origin
abbrev pub is_http_url : Parts → Bool
is_http_url url = is_http url.scheme

-- there is a URL, and each of the list but the last is http or https
abbrev pub were_http : List Parts → Bool
were_http [] = false
were_http (url ∷ []) = true
were_http (url ∷ next ∷ urls) = is_http_url url && were_http (next ∷ urls)

-- a referrer that is a URL is an http or https one
abbrev pub is_http_referrer : Referrer → Bool
is_http_referrer NoReferrer = true
is_http_referrer TheClient = true
is_http_referrer (Address url) = is_http_url url

-- so many redirects are followed
abbrev pub most_redirects : ℕ
most_redirects = 20

-- A request that there can be: its method is a token, its URL list is not empty and its earlier URLs are http or
-- https, it was redirected at most so many times, and a URL as its referrer is http or https.
pub record IsRequest (request : Request) : Type 0 where
  pub method : IsTrue (is_token request.method)
  pub urls : IsTrue (were_http request.urls)
  pub redirects : request.redirects ≤ most_redirects
  pub referrer : IsTrue (is_http_referrer request.referrer)

-- the current URL is http or https
abbrev pub IsAtHttp : Request → Type 0
IsAtHttp request = IsTrue (is_http_url (current_url request))

-- the referrer was determined: it is none or a URL
abbrev pub is_determined : Referrer → Bool
is_determined NoReferrer = true
is_determined TheClient = false
is_determined (Address url) = true

-- there is a policy
abbrev pub is_policy : ReferrerPolicy → Bool
is_policy policy.Empty = false
is_policy _ = true

-- A client that there can be: its URL is http or https, and its policy is not empty.
pub record IsClient (client : Client) : Type 0 where
  pub url : IsTrue (is_http_url client.url)
  pub policy : IsTrue (is_policy client.policy)
