-- What the scheme's setter makes of an http or https URL, and what stays true of a request that is made an https one.
use Rattle.std.proofs.Common.{◌≡◌, ◌∙◌, ◌-◌, ◌++◌, ℕ, suc, zero, true, List, [], ◌∷◌, length, take}
use Rattle.std.proofs.Common.{refl, ap, arith}
use Rattle.std.specs.Prelude.{codes, IsTrue, Option, Some, None, Ok, unwrap_or}
use Rattle.std.specs.List.{last_or}
use Rattle.value_requests.proofs.TargetLemmas.{https-kind}
use Rattle.url.specs.declared.scheme.SchemeType.TheVariants.{SpecialNotFile}
use Rattle.url.specs.Input.{split_once, strip_tabs_and_new_lines}
use Rattle.url.specs.Parts.{Parts}
use Rattle.url.specs.Scheme.{default_port, scheme_len}
use Rattle.url.specs.Setters as setters
use Rattle.fetch_rules.specs.Upgrading.{secured, with_https, with_last}
use Rattle.value_requests.specs.declared.request.Request.{Request}
use Rattle.value_requests.specs.Requests.{IsAtHttp, IsRequest, current_url, no_url, were_http}
use Rattle.value_requests.specs.Urls.{IsWeb}

-- ---- the setter

https-port : default_port (codes "https") ≡ Some 443
unfolding default_port
https-port = refl

scheme-read : (url : Parts) → setters.set_scheme url (codes "https") ≡ setters.replace_scheme url (codes "https")
unfolding strip_tabs_and_new_lines split_once scheme_len
scheme-read url = refl

takes-special : (url : Parts) → IsWeb url → setters.can_take_scheme url SpecialNotFile ≡ true
takes-special url web = rw (web.0, web.1) refl

-- the scheme is set
pub scheme-set : (url : Parts) → IsWeb url → setters.set_scheme url (codes "https") ≡ Ok (with_https url)
scheme-set url web = scheme-read url ∙ rw (https-kind, takes-special url web) refl

-- ---- the request

last-of-append : (xs : List Parts) (o : Option Parts) (y : Parts) → last_or o (xs ++ y ∷ []) ≡ Some y
last-of-append [] o y = refl
last-of-append (x ∷ xs) o y = last-of-append xs (Some x) y

-- the current URL is the one that was made
pub secured-url : (request : Request) → current_url (secured request) ≡ with_https (current_url request)
secured-url request =
    let urls = request.urls in
    ap (λ (o : Option Parts). unwrap_or o no_url)
    (last-of-append (take (length urls - 1) urls) None (with_https (current_url request)))

-- it is https
pub secured-http : (request : Request) → IsAtHttp (secured request)
secured-http request = rw (secured-url request) refl

-- the last of a list of URLs may be any
were-before : (k : ℕ) (urls : List Parts) (url : Parts) → length urls ≡ suc k → IsTrue (were_http urls)
    → IsTrue (were_http (take k urls ++ url ∷ []))
were-before k [] url is were = absurd (omega (arith, is))
were-before zero (first ∷ urls) url is were = refl
were-before (suc k) (first ∷ []) url is were = absurd (omega (arith, is))
were-before (suc zero) (first ∷ second ∷ urls) url is were = grind arith
were-before (suc (suc k)) (first ∷ second ∷ urls) url is were =
    let rest = were-before (suc k) (second ∷ urls) url (omega (arith, is)) (grind arith) in
    grind arith

were-with-last : (urls : List Parts) (url : Parts) → IsTrue (were_http urls) → IsTrue (were_http (with_last url urls))
were-with-last [] url were = refl
were-with-last (first ∷ urls) url were =
    were-before (length (first ∷ urls) - 1) (first ∷ urls) url (omega arith) were

-- it is one that there can be
pub secured-request : (request : Request) → IsRequest request → IsRequest (secured request)
secured-request request valid = record {
  method = valid.method;
  urls = were-with-last request.urls (with_https (current_url request)) valid.urls;
  redirects = valid.redirects;
  referrer = valid.referrer;
}
