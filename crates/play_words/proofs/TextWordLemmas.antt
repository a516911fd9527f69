-- The texts of URLs, hosts and origins of words are words.
use Rattle.std.proofs.Common.{◌≡◌, ℕ, ◌<◌, ◌^◌, ◌==◌, Bool, true, false, not, cond, List, [], ◌∷◌, ◌++◌, length}
use Rattle.std.proofs.Common.{Option, Some, None, refl, sym, subst, arith, codes, length-append, drop}
use Rattle.std.specs.Prelude.{IfSome, IsTrue, bytes_eq, decimal, is_some, option_map, unwrap_or}
use Rattle.std.specs.List.{concat, list_all}
use Rattle.std.specs.Int.{IsInRange}
use Rattle.std.specs.Net.Addr.{ipv4_octets, ipv6_segments}
use Rattle.std.specs.Net.Text.{hex_groups_text, ipv4_text}
use Rattle.std.specs.Option.{option_or}
use Rattle.std.proofs.lemmas.Bool.{and_from, cond_both}
use Rattle.std.proofs.lemmas.Bool.Decides.{nat_tests}
use Rattle.std.proofs.lemmas.List.Elements.{All-append, All-cons, All-nil, All-weaker}
use Rattle.std.proofs.lemmas.List.Sums.{AllPass-from_list_all, list_all-from_AllPass}
use Rattle.url.specs.declared.host.Host.{Host}
use Rattle.url.specs.declared.host.Host.TheVariants.{Domain, Ipv4, Ipv6}
use Rattle.url.specs.Host.{is_empty_host}
use Rattle.url.specs.Input.{is_empty, when}
use Rattle.url.specs.Parts.{Parts, has_authority, has_credentials, has_host, host_or_empty, needs_guard, nonempty_host}
use Rattle.url.specs.Parts.{pieces, serialize}
use Rattle.url.specs.Scheme.{default_port}
use Rattle.url.proofs.HostRoundTrip.{All-decimal}
use Rattle.url.proofs.InputLemmas.{Passes}
use Rattle.url.proofs.TextLemmas.{All-concat, All_one}
use Rattle.value_origins.specs.Names.{is_local_name}
use Rattle.value_origins.specs.Origins.{host_text, is_default_port, is_http, kind_of_host, origin_of, port_text, serialized}
use Rattle.value_origins.specs.Origins.{tuple_origin}
use Rattle.value_origins.proofs.AddressLemmas.{ipv4-back, ipv6-back}
use Rattle.value_requests.specs.Targets.{origin_text}
use Rattle.value_requests.specs.Urls.{stripped, without_fragment}
use Rattle.fetch_rules.specs.KnownHosts.{name_at, name_of_host}
use Rattle.play_text.specs.Words.{is_visible, is_word}
use Rattle.play_words.proofs.HostWordLemmas.{IsWordHost, host-visible, ipv4-visible, ipv6-visible}
use Rattle.play_words.proofs.PathWordLemmas.{AreVisible}
use Rattle.play_words.proofs.UrlWordLemmas.{IsWordUrl, of-http}

-- a word
abbrev pub IsWord : List ℕ → Type 0
IsWord text = IsTrue (is_word text)

pub word-of : (text : List ℕ) → AreVisible text → 0 < length text → IsWord text
word-of text visible some =
    let filled : not (length text == 0) ≡ true = grind (arith, nat_tests) in
    and_from (not (length text == 0)) (list_all is_visible text) filled
    (list_all-from_AllPass is_visible text visible)

-- no byte
none : AreVisible []
none = All-nil (Passes is_visible)

number-visible : (n : ℕ) → n < 2 ^ 64 → AreVisible (decimal n)
number-visible n small =
    All-weaker (IsInRange 48 57) (Passes is_visible) (λ byte is. grind (arith, nat_tests)) (decimal n)
    (All-decimal n small)

-- ---- URLs

marks-visible : (test : Bool) → AreVisible (cond test (codes "://") (codes ":"))
marks-visible true = AllPass-from_list_all is_visible (codes "://") refl
marks-visible false = AllPass-from_list_all is_visible (codes ":") refl

marks-some : (test : Bool) → 0 < length (cond test (codes "://") (codes ":"))
marks-some true = omega arith
marks-some false = omega arith

guard-visible : (test : Bool) → AreVisible (when test (codes "/."))
guard-visible true = AllPass-from_list_all is_visible (codes "/.") refl
guard-visible false = none

port-visible : (port : Option ℕ) → IfSome port (λ n. n < 2 ^ 16) → AreVisible (unwrap_or (option_map decimal port) [])
port-visible None small = none
port-visible (Some n) small = number-visible n (omega (arith, small))

url-visible : (url : Parts) → IsWordUrl url → AreVisible (serialize url)
url-visible url is =
    let P = Passes is_visible in
    All-concat P (pieces url) (
      is.scheme,
      (
        marks-visible (has_authority url),
        (
          is.username,
          (
            All_one P (not (is_empty
                url.password)) 58 refl,
            (
              is.password,
              (
                All_one P (has_credentials url) 64 refl,
                (
                  host-visible (host_or_empty url)
                      is.host,
                  (
                    All_one P (is_some url.port) 58 refl,
                    (
                      port-visible url.port is.port,
                      (
                        guard-visible (needs_guard url),
                        (
                          is.path,
                          (
                            All_one P (is_some url.query) 63 refl,
                            (
                              is.query,
                              (
                                All_one P (is_some url.fragment) 35 refl,
                                (
                                  is.fragment,
                                  tt,
                                ),
                              ),
                            ),
                          ),
                        ),
                      ),
                    ),
                  ),
                ),
              ),
            ),
          ),
        ),
      ),
    )

pub url-word : (url : Parts) → IsWordUrl url → IsWord (serialize url)
url-word url is =
    let mark = cond (has_authority url) (codes "://") (codes ":") in
    let more : List (List ℕ) = drop 2 (pieces url) in
    word-of (serialize url) (url-visible url is)
    (omega (
      arith,
      marks-some (has_authority url),
      length-append mark (concat more),
      length-append url.scheme (mark ++ concat more),
    ))

-- without its fragment
pub without-word : (url : Parts) → IsWordUrl url → IsWord (without_fragment url)
without-word url is = url-word (record url { fragment = None }) (record {
  scheme = is.scheme;
  username = is.username;
  password = is.password;
  host = is.host;
  port = is.port;
  path = is.path;
  query = is.query;
  fragment = none;
})

-- without its user name, password and fragment
pub stripped-word : (url : Parts) → IsWordUrl url → IsWord (serialize (stripped url))
stripped-word url is = url-word (stripped url) (record {
  scheme = is.scheme;
  username = none;
  password = none;
  host = is.host;
  port = is.port;
  path = is.path;
  query = is.query;
  fragment = none;
})

-- ---- names of hosts

name-by : (host : Option (Host (List ℕ))) → IsWordHost (unwrap_or host (Domain []))
    → not (is_empty_host (unwrap_or host (Domain []))) ≡ true → IfSome (name_of_host host) IsWord
name-by None is some = tt
name-by (Some (Domain name)) is some =
    cond_both (is_local_name name) None (Some name) (λ o. IfSome o IsWord) (λ _. tt)
    (λ _. word-of name is (grind (arith, nat_tests)))
name-by (Some (Ipv4 address)) is some = tt
name-by (Some (Ipv6 address)) is some = tt

pub name-word : (scheme : List ℕ) (url : Parts) → IsWordUrl url → IfSome (name_at scheme url) IsWord
name-word scheme url is =
    let P = λ (o : Option (List ℕ)). IfSome o IsWord in
    cond_both (bytes_eq url.scheme scheme) (name_of_host (nonempty_host url)) None P
    (λ _. cond_both (has_host url) url.host None (λ o. P (name_of_host o)) (λ some. name-by url.host is.host some)
    (λ _. tt)) (λ _. tt)

-- ---- origins

kind-visible : (host : Option (Host (List ℕ))) → IsWordHost (unwrap_or host (Domain []))
    → AreVisible (host_text (kind_of_host host))
kind-visible None is = none
kind-visible (Some (Domain name)) is = is
kind-visible (Some (Ipv4 address)) is =
    subst (λ (l : List ℕ). AreVisible (ipv4_text l)) (sym (ipv4-back address is))
    (ipv4-visible (ipv4_octets address) is.1)
kind-visible (Some (Ipv6 address)) is =
    subst (λ (l : List ℕ). AreVisible (91 ∷ (hex_groups_text l ++ 93 ∷ []))) (sym (ipv6-back address is))
    (ipv6-visible (ipv6_segments address) is.1)

default-small : (scheme : List ℕ) → IsTrue (is_http scheme) → unwrap_or (default_port scheme) 0 < 2 ^ 16
unfolding default_port
default-small scheme is = of-http scheme (λ s. unwrap_or (default_port s) 0 < 2 ^ 16) is (omega arith) (omega arith)

own-small : (port default : Option ℕ) → IfSome port (λ n. n < 2 ^ 16) → unwrap_or default 0 < 2 ^ 16
    → unwrap_or (option_or port default) 0 < 2 ^ 16
own-small None default small other = other
own-small (Some n) default small other = small

pub origin-word : (url : Parts) → IsWordUrl url → IsTrue (is_http url.scheme) → IsWord (serialized (tuple_origin url))
origin-word url is http =
    let P = Passes is_visible in
    let origin = tuple_origin url in
    let small = own-small url.port (default_port url.scheme) is.port (default-small url.scheme http) in
    let host : AreVisible (host_text origin.host) =
    cond_both (has_host url) url.host None (λ o. AreVisible (host_text (kind_of_host o)))
    (λ _. kind-visible url.host is.host) (λ _. none) in
    let port : AreVisible (port_text url.scheme origin.port) =
    cond_both (is_default_port url.scheme origin.port) [] (58 ∷ decimal origin.port) AreVisible (λ _. none)
    (λ _. All-cons P 58 (decimal origin.port) refl (number-visible origin.port (omega (arith, small)))) in
    let front = All-append P url.scheme (codes "://") is.scheme (marks-visible true) in
    let named = All-append P (url.scheme ++ codes "://") (host_text origin.host) front host in
    word-of (serialized origin)
    (All-append P (url.scheme ++ codes "://" ++ host_text origin.host) (port_text url.scheme origin.port) named port)
    (omega (
      arith,
      length-append (url.scheme ++ codes "://" ++ host_text origin.host) (port_text url.scheme origin.port),
      length-append (url.scheme ++ codes "://") (host_text origin.host),
      length-append url.scheme (codes "://"),
    ))

-- `null` for another
pub place-word : (url : Parts) → IsWordUrl url → IsWord (origin_text (origin_of url))
place-word url is = by (is_http url.scheme) refl
  where
    by : (b : Bool) → is_http url.scheme ≡ b → IsWord (origin_text (cond b (Some (tuple_origin url)) None))
    by true http = origin-word url is http
    by false other = refl
