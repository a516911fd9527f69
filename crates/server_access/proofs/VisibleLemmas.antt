-- The texts of URLs: their bytes are visible, so there is no white space and no line end in them.
use Rattle.std.proofs.Common.{◌≡◌, ◌==◌, ℕ, zero, suc, ◌+◌, ◌/◌, ◌%◌, ◌^◌, ◌<◌, Bool, true, false, not, ◌||◌, List}
use Rattle.std.proofs.Common.{[], ◌∷◌, ◌++◌, All, MatchOption, Option, Some, None, codes, decimal, bytes_eq, nat_lt}
use Rattle.std.proofs.Common.{refl, ap, sym, ◌∙◌, arith, lt-ltb, if◌then◌else◌, option_map, unwrap_or}
use Rattle.std.proofs.Common.{slice_index, is_some, IfSome, ⊎_elim}
use Rattle.std.proofs.lemmas.Bool.{and_from, cases_Bool}
use Rattle.std.proofs.lemmas.Grind.{common_steps}
use Rattle.std.proofs.lemmas.List.Folds.{list_all-append}
use Rattle.std.proofs.lemmas.Slice.Eq.{bytes_eq-Decides}
use Rattle.std.proofs.NetLemmas.Alphabet.{All-hex_groups_text, All-ipv4_text, IsDigitOrDot, IsHexOrColon}
use Rattle.std.specs.Fmt.{digit_glyph, digits, digits_onto}
use Rattle.std.specs.List.{AllByRecursion, concat, list_all}
use Rattle.std.specs.Net.Addr.{ipv4_octets, ipv6_segments}
use Rattle.std.specs.Net.Text.{hex_groups_text, ipv4_text}
use Rattle.value_lemmas.proofs.Lists.{list_all-weaker}
use Rattle.percent_encoding.specs.Percent.{IsKept}
use Rattle.percent_encoding.specs.declared.ascii_set.AsciiSet.{AsciiSet}
use Rattle.url.proofs.SetLemmas.{outside_pass, passes_from_kept}
use Rattle.url.proofs.ValidLemmas.{base_from_authority, hierarchical, segment_list_kept, special_has_authority}
use Rattle.url.specs.Host as url_host
use Rattle.url.specs.Input.{when}
use Rattle.url.specs.Parts.{IsValid, Parts, has_authority, has_credentials, has_host, host_or_empty, kind_of}
use Rattle.url.specs.Parts.{needs_guard, pieces, serialize}
use Rattle.url.specs.Scheme.{is_special}
use Rattle.url.specs.declared.host.Host.{Host}
use Rattle.url.specs.declared.host.Host.TheVariants.{Domain, Ipv4, Ipv6}
use Rattle.url.specs.declared.scheme.SchemeType.TheVariants.{SpecialNotFile}
use Rattle.url.specs.declared.sets.TheConstants.{FORBIDDEN_DOMAIN, FRAGMENT, PATH, SPECIAL_QUERY, USERINFO}
use Rattle.value_text.specs.Trims.{tab_or_space, trimmed}
use Rattle.value_text.specs.Values.{is_header_value, is_nul_or_newline}
use Rattle.value_origins.proofs.AddressLemmas.{ipv4-back, ipv6-back}
use Rattle.value_origins.specs.Origins as origin
use Rattle.value_requests.proofs.TargetLemmas.{http-special}
use Rattle.value_requests.specs.Requests.{is_http_url}
use Rattle.value_requests.specs.Targets.{host_value, port_text}
use Rattle.link_http1.specs.Blocks.{is_line_byte}
use Rattle.server_access.proofs.TokenLemmas.{is_solid, solid-trimmed}

-- a byte above the space
abbrev pub is_visible : ℕ → Bool
is_visible byte = nat_lt 32 byte

-- all bytes of the text are
abbrev pub AreVisible : List ℕ → Type 0
AreVisible text = list_all is_visible text ≡ true

-- ---- what it means for a text

visible-solid : (byte : ℕ) → is_visible byte ≡ true → is_solid tab_or_space byte ≡ true
visible-solid byte is = grind (arith, common_steps)

visible-inner : (byte : ℕ) → is_visible byte ≡ true → not (is_nul_or_newline byte) ≡ true
visible-inner byte is = grind (arith, common_steps)

visible-line : (byte : ℕ) → is_visible byte ≡ true → is_line_byte byte ≡ true
visible-line byte is = grind (arith, common_steps)

-- it has no line end
pub visible-text : (text : List ℕ) → AreVisible text → list_all is_line_byte text ≡ true
visible-text text all = list_all-weaker is_visible is_line_byte visible-line text all

-- it is a header value
pub visible-value : (text : List ℕ) → AreVisible text → is_header_value text ≡ true
visible-value text all =
    and_from (bytes_eq (trimmed tab_or_space text) text) (list_all (λ byte. not (is_nul_or_newline byte)) text)
    ((bytes_eq-Decides (trimmed tab_or_space text) text).1
    (solid-trimmed tab_or_space text (list_all-weaker is_visible (is_solid tab_or_space) visible-solid text all)))
    (list_all-weaker is_visible (λ byte. not (is_nul_or_newline byte)) visible-inner text all)

-- ---- parts

pub visible-append : (a b : List ℕ) → AreVisible a → AreVisible b → AreVisible (a ++ b)
visible-append a b x y =
    list_all-append is_visible a b ∙ and_from (list_all is_visible a) (list_all is_visible b) x y

visible-concat : (texts : List (List ℕ)) → AllByRecursion AreVisible texts → AreVisible (concat texts)
visible-concat [] all = refl
visible-concat (text ∷ texts) all = visible-append text (concat texts) all.0 (visible-concat texts all.1)

visible-when : (b : Bool) (text : List ℕ) → AreVisible text → AreVisible (when b text)
visible-when true text all = all
visible-when false text all = refl

-- a text whose bytes are as P says
visible-all : (P : ℕ → Type 0) → ((byte : ℕ) → P byte → is_visible byte ≡ true) → (text : List ℕ) → All P text
    → AreVisible text
visible-all P so [] all = refl
visible-all P so (byte ∷ text) all =
    and_from (is_visible byte) (list_all is_visible text) (so byte (all 0 byte (omega arith)))
    (visible-all P so text (λ k d lt. all (suc k) d (omega (arith, lt))))

-- a text that a set keeps
visible-kept : (set : AsciiSet) → outside_pass set is_visible ≡ true → (text : List ℕ) → All (IsKept set) text
    → AreVisible text
visible-kept set inside text kept = visible-all (IsKept set) (passes_from_kept set is_visible inside) text kept

-- ---- numbers

visible-glyph : (digit : ℕ) → is_visible (digit_glyph false digit) ≡ true
visible-glyph digit = by-test (nat_lt digit 10)
  where
    by-test : (b : Bool) → is_visible (if b then 48 + digit else 87 + digit) ≡ true
    by-test true = lt-ltb 32 (48 + digit) (omega arith)
    by-test false = lt-ltb 32 (87 + digit) (omega arith)

visible-onto : (k n : ℕ) (after : List ℕ) → AreVisible after → AreVisible (digits_onto k 10 false n after)
visible-onto zero n after all = all
visible-onto (suc k) n after all =
    by-test (n / 10 == 0) (visible-onto k (n / 10) (digit_glyph false (n % 10) ∷ after) more)
  where
    more : AreVisible (digit_glyph false (n % 10) ∷ after)
    more = and_from (is_visible (digit_glyph false (n % 10))) (list_all is_visible after) (visible-glyph (n % 10)) all

    by-test : (b : Bool) → AreVisible (digits_onto k 10 false (n / 10) (digit_glyph false (n % 10) ∷ after))
        → AreVisible (if b then digit_glyph false (n % 10) ∷ after
        else digits_onto k 10 false (n / 10) (digit_glyph false (n % 10) ∷ after))
    by-test true rest = more
    by-test false rest = rest

pub visible-decimal : (n : ℕ) → AreVisible (decimal n)
unfolding digits
visible-decimal n = visible-onto 64 n [] refl

-- ---- hosts

visible-digit : (byte : ℕ) → IsDigitOrDot byte → is_visible byte ≡ true
visible-digit byte is = ⊎_elim (λ r. lt-ltb 32 byte (omega (arith, r))) (λ e. ap (nat_lt 32) e) is

visible-hex : (byte : ℕ) → IsHexOrColon byte → is_visible byte ≡ true
visible-hex byte is =
    ⊎_elim (λ r. lt-ltb 32 byte (omega (arith, r))) (λ r. lt-ltb 32 byte (omega (arith, r))) is

visible-brackets : (text : List ℕ) → AreVisible text → AreVisible (codes "[" ++ text ++ codes "]")
visible-brackets text all =
    visible-append (codes "[") (text ++ codes "]") refl (visible-append text (codes "]") all refl)

visible-v4 : (octets : List ℕ) → ((k : ℕ) → slice_index octets k < 2 ^ 8) → AreVisible (ipv4_text octets)
visible-v4 octets small =
    visible-all IsDigitOrDot visible-digit (ipv4_text octets) (All-ipv4_text octets small)

visible-v6 : (segments : List ℕ) → ((k : ℕ) → slice_index segments k < 2 ^ 16)
    → AreVisible (codes "[" ++ hex_groups_text segments ++ codes "]")
visible-v6 segments small =
    visible-brackets (hex_groups_text segments)
    (visible-all IsHexOrColon visible-hex (hex_groups_text segments) (All-hex_groups_text segments small))

visible-host : (host : Host (List ℕ)) → url_host.IsHostOf SpecialNotFile host → AreVisible (url_host.host_text host)
visible-host (Domain domain) is = visible-kept FORBIDDEN_DOMAIN refl domain is.0.allowed
visible-host (Ipv4 address) is = visible-v4 (ipv4_octets address) is.1
visible-host (Ipv6 address) is = visible-v6 (ipv6_segments address) is.1

-- the host of a URL, where it has one
visible-host_or_empty : (host : Option (Host (List ℕ))) (Other : Type 0)
    → MatchOption host Other (url_host.IsHostOf SpecialNotFile)
    → AreVisible (url_host.host_text (unwrap_or host (Domain [])))
visible-host_or_empty None Other is = refl
visible-host_or_empty (Some host) Other is = visible-host host is

-- and of its origin
visible-kind : (host : Option (Host (List ℕ))) (Other : Type 0) (there : Bool)
    → MatchOption host Other (url_host.IsHostOf SpecialNotFile)
    → AreVisible (origin.host_text (origin.kind_of_host (if there then host else None)))
visible-kind host Other false is = refl
visible-kind None Other true is = refl
visible-kind (Some (Domain domain)) Other true is = visible-kept FORBIDDEN_DOMAIN refl domain is.0.allowed
visible-kind (Some (Ipv4 address)) Other true is =
    ap (λ (octets : List ℕ). list_all is_visible (ipv4_text octets)) (ipv4-back address is)
    ∙ visible-v4 (ipv4_octets address) is.1
visible-kind (Some (Ipv6 address)) Other true is =
    ap (λ (segments : List ℕ). list_all is_visible (codes "[" ++ hex_groups_text segments ++ codes "]"))
    (ipv6-back address is)
    ∙ visible-v6 (ipv6_segments address) is.1

-- ---- URLs

-- The texts of a URL's parts are visible.
pub record HasVisibleParts (url : Parts) : Type 0 where
  pub scheme : AreVisible url.scheme
  pub username : AreVisible url.username
  pub password : AreVisible url.password
  pub host : AreVisible (url_host.host_text (host_or_empty url))
  pub path : AreVisible url.path
  pub query : AreVisible (unwrap_or url.query [])
  pub fragment : AreVisible (unwrap_or url.fragment [])

visible-port : (port : Option ℕ) → AreVisible (unwrap_or (option_map decimal port) [])
visible-port None = refl
visible-port (Some port) = visible-decimal port

visible-either : (b : Bool) → AreVisible (if b then codes "://" else codes ":")
visible-either true = refl
visible-either false = refl

-- so is its own text
pub visible-serialize : (url : Parts) → HasVisibleParts url → AreVisible (serialize url)
visible-serialize url parts =
    visible-concat (pieces url) (
      parts.scheme,
      (
        visible-either (has_authority url),
        (
          parts.username,
          (
            visible-when _ (codes ":") refl,
            (
              parts.password,
              (
                visible-when (has_credentials url) (codes "@") refl,
                (
                  parts.host,
                  (
                    visible-when (is_some url.port) (codes ":") refl,
                    (
                      visible-port url.port,
                      (
                        visible-when (needs_guard url) (codes "/.") refl,
                        (
                          parts.path,
                          (
                            visible-when (is_some url.query) (codes "?") refl,
                            (parts.query, (visible-when (is_some url.fragment) (codes "#") refl, (parts.fragment, tt))),
                          ),
                        ),
                      ),
                    ),
                  ),
                ),
              ),
            ),
          ),
        ),
      ),
    )

visible-http : (scheme : List ℕ) → origin.is_http scheme ≡ true → AreVisible scheme
visible-http scheme http =
    ⊎_elim (λ is. ap (list_all is_visible) ((bytes_eq-Decides scheme (codes "http")).0 is))
    (λ other. ap (list_all is_visible) ((bytes_eq-Decides scheme (codes "https")).0
    (sym (ap (λ (b : Bool). b || bytes_eq scheme (codes "https")) other) ∙ http)))
    (cases_Bool (bytes_eq scheme (codes "http")))

visible-part : (set : AsciiSet) → outside_pass set is_visible ≡ true → (part : Option (List ℕ))
    → IfSome part (All (IsKept set)) → AreVisible (unwrap_or part [])
visible-part set inside None kept = refl
visible-part set inside (Some text) kept = visible-kept set inside text kept

-- an http or https URL has such parts
pub visible-parts : (url : Parts) → IsValid url → is_http_url url ≡ true → HasVisibleParts url
visible-parts url valid http =
    let kind : kind_of url ≡ SpecialNotFile = http-special url http in
    let special : is_special (kind_of url) ≡ true = ap is_special kind in
    let based = base_from_authority url (special_has_authority url valid.head special) in
    record {
      scheme = visible-http url.scheme http;
      username = visible-kept USERINFO refl url.username valid.head.username;
      password = visible-kept USERINFO refl url.password valid.head.password;
      host = visible-host_or_empty url.host _ (rw kind at valid.head.host);
      path = visible-kept PATH refl url.path (segment_list_kept _ url.path (hierarchical url valid.path based).0);
      query = visible-part SPECIAL_QUERY refl url.query (rw kind at valid.query);
      fragment = visible-part FRAGMENT refl url.fragment valid.fragment;
    }

-- the value of Host
visible-port_text : (port : Option ℕ) → AreVisible (port_text port)
visible-port_text None = refl
visible-port_text (Some port) = visible-append (codes ":") (decimal port) refl (visible-decimal port)

pub visible-host_value : (url : Parts) → HasVisibleParts url → AreVisible (host_value url)
visible-host_value url parts =
    visible-append (url_host.host_text (host_or_empty url)) (port_text url.port) parts.host
    (visible-port_text url.port)

-- the text of its origin
pub visible-origin : (url : Parts) → IsValid url → is_http_url url ≡ true
    → AreVisible (origin.serialized (origin.tuple_origin url))
visible-origin url valid http =
    let kind : kind_of url ≡ SpecialNotFile = http-special url http in
    let made = origin.tuple_origin url in
    visible-append (url.scheme ++ codes "://" ++ origin.host_text made.host) (origin.port_text url.scheme made.port)
    (visible-append (url.scheme ++ codes "://") (origin.host_text made.host)
    (visible-append url.scheme (codes "://") (visible-http url.scheme http) refl)
    (visible-kind url.host _ (has_host url) (rw kind at valid.head.host)))
    (by-test (origin.is_default_port url.scheme made.port))
  where
    by-test : (b : Bool) → AreVisible (if b then [] else codes ":" ++ decimal (origin.tuple_origin url).port)
    by-test true = refl
    by-test false =
        visible-append (codes ":") (decimal (origin.tuple_origin url).port) refl
        (visible-decimal (origin.tuple_origin url).port)
