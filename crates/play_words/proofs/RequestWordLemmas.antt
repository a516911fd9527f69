-- A request that a document makes is of words, and stays so.
use Rattle.std.proofs.Common.{◌≡◌, ◌-◌, ℕ, zero, suc, Bool, true, false, cond, List, [], ◌∷◌, ◌++◌, length, take, filter}
use Rattle.std.proofs.Common.{refl, ap, sym, subst, ◌∙◌, arith, codes, Option, Some, None}
use Rattle.std.specs.Prelude.{IfSome, IsTrue, unwrap_or}
use Rattle.std.specs.List.{last_or}
use Rattle.std.specs.Option.{option_eq}
use Rattle.std.specs.Prelude.{nat_eq, ◌^◌, ◌<◌}
use Rattle.std.proofs.lemmas.Bool.{cond_both}
use Rattle.std.proofs.lemmas.List.Sums.{AllPass-from_list_all}
use Rattle.url.specs.Parts.{Parts}
use Rattle.url.specs.Scheme.{default_port}
use Rattle.value_headers.specs.declared.headers.Header.{Header}
use Rattle.value_origins.specs.Origins.{have_same_origin, serialized}
use Rattle.value_requests.specs.declared.hop.Head.{Head}
use Rattle.value_requests.specs.declared.request.Request.{Request}
use Rattle.value_requests.specs.Requests.{current_url, is_http_url, no_url}
use Rattle.value_text.specs.Tokens.{is_token}
use Rattle.policy_checks.specs.RequestOrigins.{has_tainted_origin, serialized_request_origin}
use Rattle.policy_csp.specs.Violations.{first_url}
use Rattle.fetch_rules.specs.Upgrading.{secured, secured_where, with_https, with_last}
use Rattle.fetch_rules.proofs.UpgradingLemmas.{secured-http, secured-url}
use Rattle.fetch_answers.specs.Following.{at_next, redirected_request, turned_to_get, turns_to_get}
use Rattle.fetch_answers.specs.Following.{with_method_after, without_authorization}
use Rattle.play_text.specs.Words.{is_visible}
use Rattle.play_words.proofs.NameWordLemmas.{AreNamed}
use Rattle.play_words.proofs.TextWordLemmas.{IsWord}
use Rattle.play_words.proofs.UrlWordLemmas.{IsWordUrl}

-- A request whose method and header names are tokens, whose current URL is an http or https one of words, as the first
-- is of words, and whose origin's text is a word.
pub record IsWordRequest (request : Request) : Type 0 where
  pub method : IsTrue (is_token request.method)
  pub headers : AreNamed request.headers
  pub current : IsWordUrl (current_url request)
  pub http : IsTrue (is_http_url (current_url request))
  pub first : IsWordUrl (first_url request.urls)
  pub origin : IsWord (serialized request.origin)

-- `null` for a tainted origin
pub request-origin : (request : Request) → IsWordRequest request → IsWord (serialized_request_origin request)
request-origin request is =
    cond_both (has_tainted_origin request.origin request.urls) (codes "null") (serialized request.origin) IsWord
    (λ _. refl) (λ _. is.origin)

-- ---- made https

https-word : (url : Parts) → IsWordUrl url → IsWordUrl (with_https url)
https-word url is = record {
  scheme = AllPass-from_list_all is_visible (codes "https") refl;
  username = is.username;
  password = is.password;
  host = is.host;
  port = cond_both (option_eq nat_eq url.port (default_port (codes "https"))) None url.port
      (λ o. IfSome o (λ n. n < 2 ^ 16)) (λ _. tt) (λ _. is.port);
  path = is.path;
  query = is.query;
  fragment = is.fragment;
}

-- the first stays, where it is not the last
first-before : (k : ℕ) (urls : List Parts) (url : Parts) → length urls ≡ suc k → IsWordUrl (first_url urls)
    → IsWordUrl url → IsWordUrl (first_url (take k urls ++ url ∷ []))
first-before k [] url is first last = absurd (omega (arith, is))
first-before zero (one ∷ urls) url is first last = last
first-before (suc k) (one ∷ urls) url is first last = first

first-last : (urls : List Parts) (url : Parts) → IsWordUrl (first_url urls) → IsWordUrl url
    → IsWordUrl (first_url (with_last url urls))
first-last [] url first last = last
first-last (one ∷ urls) url first last =
    first-before (length (one ∷ urls) - 1) (one ∷ urls) url (omega arith) first last

secured-word : (request : Request) → IsWordRequest request → IsWordRequest (secured request)
secured-word request is =
    let url = https-word (current_url request) is.current in
    record {
      method = is.method;
      headers = is.headers;
      current = subst IsWordUrl (sym (secured-url request)) url;
      http = secured-http request;
      first = first-last request.urls (with_https (current_url request)) is.first url;
      origin = is.origin;
    }

pub where-word : (secure : Bool) (request : Request) → IsWordRequest request
    → IsWordRequest (secured_where secure request)
where-word true request is = secured-word request is
where-word false request is = is

-- ---- redirected

-- The rest of a request that is to be redirected, whatever its current URL.
abbrev IsWordRest : Request → Request → Type 0
IsWordRest request next =
    IsTrue (is_token next.method) × AreNamed next.headers × (next.urls ≡ request.urls) × (next.origin ≡ request.origin)

filtered-named : (test : Header → Bool) (headers : List Header) → AreNamed headers → AreNamed (filter test headers)
filtered-named test [] all = tt
filtered-named test (one ∷ more) all =
    cond_both (test one) (one ∷ filter test more) (filter test more) AreNamed
    (λ _. (all.0, filtered-named test more all.1)) (λ _. filtered-named test more all.1)

method-rest : (turns : Bool) (request : Request) → IsWordRequest request
    → IsWordRest request (cond turns (turned_to_get request) request)
method-rest true request is = (refl, filtered-named _ request.headers is.headers, refl, refl)
method-rest false request is = (is.method, is.headers, refl, refl)

authorization-rest : (same : Bool) (request next : Request) → IsWordRest request next
    → IsWordRest request (cond same next (without_authorization next))
authorization-rest true request next is = is
authorization-rest false request next is = (is.0, filtered-named _ next.headers is.1, is.2, is.3)

first-more : (urls : List Parts) (url : Parts) → IsWordUrl (first_url urls) → IsWordUrl url
    → IsWordUrl (first_url (urls ++ url ∷ []))
first-more [] url first last = last
first-more (one ∷ urls) url first last = first

last-more : (urls : List Parts) (other : Option Parts) (url : Parts) → last_or other (urls ++ url ∷ []) ≡ Some url
last-more [] other url = refl
last-more (one ∷ urls) other url = last-more urls (Some one) url

next-word : (request next : Request) (url : Parts) → IsWordRequest request → IsWordRest request next → IsWordUrl url
    → IsTrue (is_http_url url) → IsWordRequest (at_next url next)
next-word request next url is rest word http =
    let current : current_url (at_next url next) ≡ url =
    ap (λ (o : Option Parts). unwrap_or o no_url) (last-more next.urls None url) in
    record {
      method = rest.0;
      headers = rest.1;
      current = subst IsWordUrl (sym current) word;
      http = ap is_http_url current ∙ http;
      first = first-more next.urls url (subst (λ (l : List Parts). IsWordUrl (first_url l)) (sym rest.2) is.first) word;
      origin = subst (λ o. IsWord (serialized o)) (sym rest.3) is.origin;
    }

pub redirected-word : (request : Request) (head : Head) (url : Parts) → IsWordRequest request → IsWordUrl url
    → IsTrue (is_http_url url) → IsWordRequest (redirected_request request head url)
redirected-word request head url is word http =
    let turned = with_method_after head.status request in
    let rest = authorization-rest (have_same_origin (current_url turned) url) request turned
    (method-rest (turns_to_get request.method head.status) request is) in
    next-word request _ url is rest word http
