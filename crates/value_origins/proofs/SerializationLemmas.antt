-- The text of an origin is that of the URL's own.
use Rattle.std.proofs.Common.{◌≡◌, ◌++◌, ◌==◌, ℕ, List, [], Bool, true, false, not, Option, Some, None, MatchOption}
use Rattle.std.proofs.Common.{refl, ap, sym, ◌∙◌, subst, codes, decimal, IsTrue, unwrap_or, bytes_eq, ⊎_elim, arith}
use Rattle.std.proofs.Common.{if◌then◌else◌, ◌∷◌}
use Rattle.std.specs.Option.{option_eq, option_or}
use Rattle.std.specs.Prelude.{nat_eq}
use Rattle.std.specs.Net.Text.{hex_groups_text, ipv4_text}
use Rattle.std.proofs.lemmas.Slice.Eq.{bytes_eq-Decides}
use Rattle.std.proofs.lemmas.Bool.{or_cases}
use Rattle.std.proofs.lemmas.Bool.Decides.{Decides-eqb}
use Rattle.std.proofs.lemmas.Grind.{common_steps}
use Rattle.std.proofs.Math.Bool.{or-false}
use Rattle.std.specs.Bool.{one_answer}
use Rattle.url.specs.Host as url_host
use Rattle.url.specs.Input.{is_empty}
use Rattle.url.specs.Origin as url_origin
use Rattle.url.specs.Parts.{IsValid, Parts, host_or_empty, kind_of, nonempty_host}
use Rattle.url.specs.Parser.{parse_url}
use Rattle.url.specs.Scheme.{default_port, is_special, scheme_type}
use Rattle.url.specs.declared.host.Host.{Host}
use Rattle.url.specs.declared.host.Host.TheVariants.{Domain, Ipv4, Ipv6}
use Rattle.url.specs.declared.scheme.SchemeType.TheVariants.{SpecialNotFile}
use Rattle.value_origins.specs.Laws.{IsSerializedAsUrl}
use Rattle.value_origins.specs.Origins.{host_text, is_default_port, is_http, kind_of_host, port_text}
use Rattle.value_origins.proofs.AddressLemmas.{ipv4-back, ipv6-back}

-- what the three words on schemes come to at http and https
record IsHttpScheme (scheme : List ℕ) : Type 0 where
  no_blob : bytes_eq scheme (codes "blob") ≡ false
  special : scheme_type scheme ≡ SpecialNotFile
  ports : (port : ℕ) → is_default_port scheme port ≡ option_eq nat_eq (default_port scheme) (Some port)

same-port : (port known : ℕ) → (port == known) ≡ nat_eq known port
same-port port known =
    let there = Decides-eqb known port in
    one_answer (port == known) (nat_eq known port) (Decides-eqb port known)
    (λ e. sym (there.0 e), λ e. there.1 (sym e))

at-http : IsHttpScheme (codes "http")
unfolding default_port scheme_type
at-http = record { no_blob = refl; special = refl; ports = λ port. or-false (port == 80) ∙ same-port port 80 }

at-https : IsHttpScheme (codes "https")
unfolding default_port scheme_type
at-https = record { no_blob = refl; special = refl; ports = λ port. same-port port 443 }

-- a scheme that is http or https
http-scheme : (scheme : List ℕ) → IsTrue (is_http scheme) → IsHttpScheme scheme
http-scheme scheme http =
    ⊎_elim
    (λ e. subst IsHttpScheme (sym ((bytes_eq-Decides scheme (codes "http")).0 e)) at-http)
    (λ e. subst IsHttpScheme (sym ((bytes_eq-Decides scheme (codes "https")).0 e)) at-https)
    (or_cases (bytes_eq scheme (codes "http")) (bytes_eq scheme (codes "https")) http)

-- a domain that is not written where it is empty
domain-same : (b : Bool) (domain : List ℕ) → is_empty domain ≡ b
    → host_text (kind_of_host (if not b then Some (Domain domain) else None)) ≡ domain
domain-same true [] e = refl
domain-same true (byte ∷ domain) e = grind (arith, common_steps)
domain-same false domain e = refl

-- the same by the kind of the host
host-same-at : (host : Option (Host (List ℕ))) (url : Parts) → url.host ≡ host
    → MatchOption host (is_special (kind_of url) ≡ false) (url_host.IsHostOf (kind_of url))
    → host_text (kind_of_host (if not (url_host.is_empty_host (unwrap_or host (Domain []))) then host else None))
    ≡ url_host.host_text (unwrap_or host (Domain []))
host-same-at None url is valid = refl
host-same-at (Some (Domain domain)) url is valid = domain-same (is_empty domain) domain refl
host-same-at (Some (Ipv4 address)) url is valid = ap ipv4_text (ipv4-back address valid)
host-same-at (Some (Ipv6 address)) url is valid =
    ap (λ segments. codes "[" ++ hex_groups_text segments ++ codes "]") (ipv6-back address valid)

-- the host of a URL, written
host-same : (url : Parts) → IsValid url → host_text (kind_of_host (nonempty_host url))
    ≡ url_host.host_text (host_or_empty url)
host-same url valid = host-same-at url.host url refl valid.head.host

-- the whole
pub serialized-as_url : (url : Parts) → IsValid url → IsSerializedAsUrl url
serialized-as_url url valid http =
    let scheme = http-scheme url.scheme http in
    let port : ℕ = unwrap_or (option_or url.port (default_port url.scheme)) 0 in
    let written : Bool → List ℕ = λ b. url.scheme ++ codes "://" ++ url_host.host_text (host_or_empty url)
    ++ (if b then [] else codes ":" ++ decimal port) in
    let whole : url_origin.origin_of url ≡ Some (url.scheme, host_or_empty url, port) =
    ap (λ b. if b then url_origin.blob_origin (parse_url None url.path) else url_origin.own_origin url) scheme.no_blob
    ∙ ap (λ kind. url_origin.tuple_of_kind kind url) scheme.special in
    ap (λ host. url.scheme ++ codes "://" ++ host ++ port_text url.scheme port) (host-same url valid)
    ∙ ap written (scheme.ports port) ∙ sym (ap url_origin.ascii_serialization whole)
