-- The request after a redirect is a request.
use Rattle.std.proofs.Common.{◌≡◌, ◌∙◌, ◌<◌, ◌∷◌, ◌++◌, [], ℕ, Bool, true, false, List}
use Rattle.std.proofs.Common.{refl, sym, subst, arith, cond}
use Rattle.std.proofs.lemmas.Bool.{and_from, and_parts}
use Rattle.std.specs.Prelude.{IsTrue, unwrap_or, Some, None}
use Rattle.std.specs.List.{last_or}
use Rattle.url.specs.Parts.{Parts}
use Rattle.value_headers.specs.declared.headers.Header.{Header}
use Rattle.value_origins.specs.Origins.{have_same_origin}
use Rattle.value_text.specs.Tokens.{is_token}
use Rattle.value_requests.specs.declared.hop.Head.{Head}
use Rattle.value_requests.specs.declared.request.Request.{Request}
use Rattle.value_requests.specs.Requests.{IsAtHttp, IsRequest, current_url, is_http_url, no_url, were_http}
use Rattle.fetch_answers.specs.Following.{at_next, turned_to_get, turns_to_get, with_authorization_at}
use Rattle.fetch_answers.specs.Following.{with_method_after, with_policy_of, without_authorization}

-- ---- what the rules leave alone

-- The request has the URLs, the count and the referrer of another, and its method is a token.
pub record StaysAt (request next : Request) : Type 0 where
  pub urls : next.urls ≡ request.urls
  pub redirects : next.redirects ≡ request.redirects
  pub referrer : next.referrer ≡ request.referrer
  pub method : IsTrue (is_token next.method)

method-by : (turns : Bool) (request : Request) → IsTrue (is_token request.method)
    → StaysAt request (cond turns (turned_to_get request) request)
method-by true request token = record { urls = refl; redirects = refl; referrer = refl; method = refl }
method-by false request token = record { urls = refl; redirects = refl; referrer = refl; method = token }

pub method_stays : (status : ℕ) (request : Request) → IsRequest request
    → StaysAt request (with_method_after status request)
method_stays status request is = method-by (turns_to_get request.method status) request is.method

authorization-by : (same : Bool) (request : Request) → IsTrue (is_token request.method)
    → StaysAt request (cond same request (without_authorization request))
authorization-by true request token = record { urls = refl; redirects = refl; referrer = refl; method = token }
authorization-by false request token = record { urls = refl; redirects = refl; referrer = refl; method = token }

pub authorization_stays : (url : Parts) (request next : Request) → StaysAt request next
    → StaysAt request (with_authorization_at url next)
authorization_stays url request next before =
    let after = authorization-by (have_same_origin (current_url next) url) next before.method in
    record {
      urls = after.urls ∙ before.urls;
      redirects = after.redirects ∙ before.redirects;
      referrer = after.referrer ∙ before.referrer;
      method = after.method;
    }

pub policy_stays : (headers : List Header) (request next : Request) → StaysAt request next
    → StaysAt request (with_policy_of headers next)
policy_stays headers request next before = record {
  urls = before.urls;
  redirects = before.redirects;
  referrer = before.referrer;
  method = before.method;
}

-- ---- one URL more

were_http-more : (one : Parts) (urls : List Parts) (url : Parts) → IsTrue (were_http (one ∷ urls))
    → IsTrue (is_http_url (unwrap_or (last_or (Some one) urls) no_url))
    → IsTrue (were_http (one ∷ (urls ++ url ∷ [])))
were_http-more one [] url were last = and_from (is_http_url one) true last refl
were_http-more one (two ∷ urls) url were last =
    and_from (is_http_url one) _ (and_parts (is_http_url one) _ were).0
    (were_http-more two urls url (and_parts (is_http_url one) _ were).1 last)

were_http-and : (urls : List Parts) (url : Parts) → IsTrue (were_http urls)
    → IsTrue (is_http_url (unwrap_or (last_or None urls) no_url)) → IsTrue (were_http (urls ++ url ∷ []))
were_http-and [] url were last = absurd (grind arith)
were_http-and (one ∷ urls) url were last = were_http-more one urls url were last

pub next_is : (url : Parts) (request last : Request) → IsRequest request → request.redirects < 20 → IsAtHttp request
    → StaysAt request last → IsRequest (at_next url last)
next_is url request last is few http stays = record {
  method = stays.method;
  urls = rw stays.urls (were_http-and request.urls url is.urls http);
  redirects = omega (arith, stays.redirects);
  referrer = rw stays.referrer is.referrer;
}

-- ---- the steps, one after the other

-- all but the last leave what a request has to have
pub all_stay : (head : Head) (url : Parts) (request first second third : Request) → IsRequest request
    → first ≡ with_method_after head.status request → second ≡ with_authorization_at url first
    → third ≡ with_policy_of head.headers second → StaysAt request third
all_stay head url request first second third is e f g =
    subst (StaysAt request) (sym g)
    (policy_stays head.headers request second
    (subst (StaysAt request) (sym f)
    (authorization_stays url request first (subst (StaysAt request) (sym e) (method_stays head.status request is)))))
