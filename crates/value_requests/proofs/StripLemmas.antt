-- What the setters make of an http or https URL where its fragment and its credentials are taken away.
use Rattle.std.proofs.Common.{◌≡◌, ◌∙◌, ℕ, false, true, List, [], ap, refl, arith}
use Rattle.std.proofs.lemmas.Bool.{cond-false, true≢false}
use Rattle.std.specs.Prelude.{IsTrue, MatchOption, not, unwrap_or, Option, Some, None, Ok}
use Rattle.percent_encoding.proofs.PercentLemmas.{percent_encode-nil}
use Rattle.url.specs.declared.host.Host.{Host}
use Rattle.url.specs.declared.host.Host.TheVariants.{Domain, Ipv4, Ipv6}
use Rattle.url.specs.declared.scheme.SchemeType.TheVariants.{SpecialNotFile}
use Rattle.url.specs.declared.sets.TheConstants.{USERINFO}
use Rattle.url.specs.Host.{IsHostOf, is_empty_host}
use Rattle.url.specs.Parts.{Parts, IsValid, cannot_have_credentials_or_port}
use Rattle.url.specs.Scheme.{is_special}
use Rattle.url.specs.Setters as setters
use Rattle.url.proofs.ValidLemmas.{option_unchanged}
use Rattle.value_requests.specs.Urls.{IsWeb}
use Rattle.value_requests.proofs.TargetLemmas.{http-special}
use Rattle.value_requests.specs.Requests.{is_http_url}

host-filled : (host : Option (Host (List ℕ)))
    → MatchOption host (is_special SpecialNotFile ≡ false) (IsHostOf SpecialNotFile)
    → not (is_empty_host (unwrap_or host (Domain []))) ≡ true
host-filled None none = absurd (true≢false none)
host-filled (Some (Domain name)) valid = let filled = valid.1 in grind arith
host-filled (Some (Ipv4 address)) valid = refl
host-filled (Some (Ipv6 address)) valid = refl

-- a valid http or https URL has a host
pub http-web : (url : Parts) → IsValid url → IsTrue (is_http_url url) → IsWeb url
http-web url valid http =
    let kind = http-special url http in
    (kind, host-filled url.host (rw kind at valid.head.host))

may-have-credentials : (url : Parts) → IsWeb url → cannot_have_credentials_or_port url ≡ false
may-have-credentials url web = rw (web.0, web.1)

-- without its fragment it keeps its query
pub fragment-dropped : (url : Parts) → IsValid url → setters.set_fragment url None ≡ record url { fragment = None }
fragment-dropped url valid =
    λ i. record url { query = option_unchanged _ url.query valid.query i; fragment = None }

-- an empty user name is set
pub username-dropped : (url : Parts) → IsWeb url → setters.set_username url [] ≡ Ok (record url { username = [] })
username-dropped url web =
    cond-false _ _ _ (may-have-credentials url web)
    ∙ ap (λ (name : List ℕ). Ok (record url { username = name })) (percent_encode-nil USERINFO)

-- no password is set
pub password-dropped : (url : Parts) → IsWeb url
    → setters.set_password url None ≡ Ok (record url { password = [] })
password-dropped url web =
    cond-false _ _ _ (may-have-credentials url web)
    ∙ ap (λ (word : List ℕ). Ok (record url { password = word })) (percent_encode-nil USERINFO)

-- a URL without credentials stays the same without them
pub credentials-absent : (url : Parts) → url.username ≡ [] → url.password ≡ []
    → url ≡ record url { username = []; password = [] }
credentials-absent url username password = λ i. record url { username = username i; password = password i }

-- a URL without a fragment stays the same without it
pub fragment-absent : (url : Parts) → url.fragment ≡ None → url ≡ record url { fragment = None }
fragment-absent url fragment = λ i. record url { fragment = fragment i }
