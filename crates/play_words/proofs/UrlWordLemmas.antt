-- An http or https URL that a text gives is of words.
use Rattle.std.proofs.Common.{◌≡◌, ℕ, ◌<◌, ◌^◌, Bool, true, false, not, ◌&&◌, ◌||◌, cond, List, [], drop, take}
use Rattle.std.proofs.Common.{Option, Some, None, Ok, Err, refl, sym, ap, subst, ◌∙◌, codes, ltb-true}
use Rattle.std.specs.Prelude.{IfOk, IfSome, IsTrue, unwrap_or, option_map, ◌==◌, bytes_eq, is_some, nat_eq, nat_lt}
use Rattle.std.specs.Char.{is_ascii_digit}
use Rattle.std.specs.List.{list_all}
use Rattle.std.specs.Option.{option_eq, option_or}
use Rattle.std.specs.Str.Parse.{digits_value}
use Rattle.std.proofs.lemmas.Bool.{and_parts, cond_both}
use Rattle.std.proofs.lemmas.List.Elements.{All-nil}
use Rattle.std.proofs.lemmas.List.Sums.{AllPass-from_list_all}
use Rattle.std.proofs.lemmas.Slice.Eq.{bytes_eq-Decides}
use Rattle.url.specs.declared.error.ParseError.TheVariants.{EmptyHost, RelativeUrlWithCannotBeABaseBase}
use Rattle.url.specs.declared.host.Host.{Host}
use Rattle.url.specs.declared.host.Host.TheVariants.{Domain}
use Rattle.url.specs.declared.scheme.SchemeType.{SchemeType}
use Rattle.url.specs.declared.scheme.SchemeType.TheVariants.{File, NotSpecial, SpecialNotFile}
use Rattle.url.specs.declared.sets.TheConstants.{FRAGMENT, OPAQUE_PATH, SPECIAL_QUERY, USERINFO}
use Rattle.url.specs.Head.{head_only, scheme_only, with_authority}
use Rattle.url.specs.Host.{parse_file_host, parse_host}
use Rattle.url.specs.Input.{is_empty, lowercase, rsplit_once, split_once, strip_tabs_and_new_lines, trim_c0_control_and_space}
use Rattle.url.specs.Parser.{Parsed, after_double_slash, after_slashes, and_then, base_for_scheme, before_tail, inherit}
use Rattle.url.specs.Parser.{lacks_host, leading_slashes, parse_all, parse_authority, parse_body, parse_by_scheme}
use Rattle.url.specs.Parser.{parse_not_file, parse_parts, parse_port, parse_relative, parse_url, skip_slashes, split_port}
use Rattle.url.specs.Parser.{after_file_double_slash, file_with_host, is_fragment_only, parse_file, parse_non_special, parse_without_scheme, split_scheme, with_path, with_tail}
use Rattle.url.specs.Parts.{Parts, cannot_be_a_base, host_or_empty, kind_of, query_set}
use Rattle.url.specs.Path.{escape_end, is_windows_drive_letter, parse_path, parse_path_start, segment_len, shorten_path}
use Rattle.url.proofs.SchemeLemmas.{file_from_is_file, file_from_scheme_type}
use Rattle.url.specs.Scheme.{default_port, is_file, is_special, scheme_type}
use Rattle.url.proofs.InputLemmas.{Passes}
use Rattle.url.proofs.ParsedCanonical.{before_special}
use Rattle.value_origins.specs.Origins.{is_http}
use Rattle.percent_encoding.specs.Percent.{percent_encode}
use Rattle.play_text.specs.Words.{is_visible}
use Rattle.play_words.proofs.HostWordLemmas.{IsWordHost, special-gives}
use Rattle.play_words.proofs.PathWordLemmas.{AreVisible, AreVisibleIn, escaped-visible, segments-visible, shorten-visible}
use Rattle.play_words.proofs.PathWordLemmas.{start-visible}

-- The parts of the URL are of visible bytes, and its port is a number of 16 bits.
pub record IsWordUrl (url : Parts) : Type 0 where
  pub scheme : AreVisible url.scheme
  pub username : AreVisible url.username
  pub password : AreVisible url.password
  pub host : IsWordHost (host_or_empty url)
  pub port : IfSome url.port (λ port. port < 2 ^ 16)
  pub path : AreVisible url.path
  pub query : AreVisibleIn url.query
  pub fragment : AreVisibleIn url.fragment

-- such a URL with this scheme
abbrev IsUrlOf : List ℕ → Parts → Type 0
IsUrlOf scheme url = IsWordUrl url × (url.scheme ≡ scheme)

-- a URL that is given is such a one
abbrev GivesUrl : List ℕ → Parsed Parts → Type 0
GivesUrl scheme read = IfOk read (IsUrlOf scheme)

gives-then : {T : Type 0} (scheme : List ℕ) (read : Parsed T) (P : T → Type 0) (next : T → Parsed Parts) → IfOk read P
    → ((value : T) → P value → GivesUrl scheme (next value)) → GivesUrl scheme (and_then read next)
gives-then scheme (Ok value) P next is goes = goes value is
gives-then scheme (Err error) P next is goes = tt

-- ---- the two schemes

-- what holds of both schemes holds of each
pub of-http : (scheme : List ℕ) (P : List ℕ → Type 0) → IsTrue (is_http scheme) → P (codes "http") → P (codes "https")
    → P scheme
of-http scheme P is http https =
    by (bytes_eq scheme (codes "http")) refl is
  where
    by : (b : Bool) → bytes_eq scheme (codes "http") ≡ b → (b || bytes_eq scheme (codes "https")) ≡ true → P scheme
    by true same either = subst P (sym ((bytes_eq-Decides scheme (codes "http")).0 same)) http
    by false other same = subst P (sym ((bytes_eq-Decides scheme (codes "https")).0 same)) https

http-kind : (scheme : List ℕ) → IsTrue (is_http scheme) → scheme_type scheme ≡ SpecialNotFile
unfolding scheme_type default_port
http-kind scheme is = of-http scheme (λ s. scheme_type s ≡ SpecialNotFile) is refl refl

-- ---- before the path

-- no port, or one of 16 bits
abbrev IsPort : Option ℕ → Type 0
IsPort port = IfSome port (λ n. n < 2 ^ 16)

port-gives : (scheme digits : List ℕ) → IfOk (parse_port scheme digits) IsPort
unfolding parse_port
port-gives scheme digits =
    let Gives = λ (read : Parsed (Option ℕ)). IfOk read IsPort in
    let value = digits_value 10 digits in
    cond_both (is_empty digits) _ _ Gives (λ _. tt)
    (λ _. cond_both (list_all is_ascii_digit digits && nat_lt value (2 ^ 16)) _ _ Gives
    (λ both. cond_both (option_eq nat_eq (Some value) (default_port scheme)) None (Some value) IsPort (λ _. tt)
    (λ _. ltb-true value (2 ^ 16) (and_parts (list_all is_ascii_digit digits) _ both).1)) (λ _. tt))

authority-gives : (scheme bytes : List ℕ) → scheme_type scheme ≡ SpecialNotFile → AreVisible scheme
    → GivesUrl scheme (parse_authority scheme bytes)
unfolding parse_authority
authority-gives scheme bytes kind visible =
    let none = All-nil (Passes is_visible) in
    let at = rsplit_once 64 bytes in
    let host_port = split_port at.1 in
    let userinfo = split_once 58 (unwrap_or at.0 []) in
    let port = parse_port scheme (unwrap_or host_port.1 []) in
    let made = λ (host : Host (List ℕ)) (n : Option ℕ).
    Ok (with_authority scheme userinfo.0 (unwrap_or userinfo.1 []) host n) in
    let read = and_then (parse_host (scheme_type scheme) host_port.0) (λ host. and_then port (made host)) in
    cond_both (lacks_host at.0 host_port.0 host_port.1) (Err EmptyHost) read (GivesUrl scheme) (λ _. tt)
    (λ _. gives-then scheme (parse_host (scheme_type scheme) host_port.0) IsWordHost (λ host. and_then port (made host))
    (subst (λ k. IfOk (parse_host k host_port.0) IsWordHost) (sym kind) (special-gives host_port.0)) (λ host is.
    gives-then scheme port IsPort (made host) (port-gives scheme (unwrap_or host_port.1 []))
    (λ n small. (
      record {
        scheme = visible;
        username = escaped-visible USERINFO refl userinfo.0;
        password = escaped-visible USERINFO refl (unwrap_or userinfo.1 []);
        host = is;
        port = small;
        path = none;
        query = none;
        fragment = none;
      },
      refl,
    ))))

-- ---- with the path

-- another path of visible bytes
with-path : (url : Parts) (path : List ℕ) → IsWordUrl url → AreVisible path → IsWordUrl (with_path url path)
with-path url path is visible = record {
  scheme = is.scheme;
  username = is.username;
  password = is.password;
  host = is.host;
  port = is.port;
  path = visible;
  query = is.query;
  fragment = is.fragment;
}

slashes-give : (scheme bytes : List ℕ) → scheme_type scheme ≡ SpecialNotFile → AreVisible scheme
    → GivesUrl scheme (after_double_slash scheme bytes)
unfolding after_double_slash
slashes-give scheme bytes kind visible =
    let len = segment_len (scheme_type scheme) bytes in
    let path = λ (k : SchemeType). parse_path_start k [] (drop len bytes) in
    gives-then scheme (parse_authority scheme (take len bytes)) (IsUrlOf scheme)
    (λ head. Ok (with_path head (path (scheme_type scheme))))
    (authority-gives scheme (take len bytes) kind visible) (λ head is. (
      with-path head (path (scheme_type scheme)) is.0
          (subst (λ k. AreVisible (path k)) (sym kind) (start-visible (drop len bytes))),
      is.1,
    ))

head-alone : (url : Parts) → IsWordUrl url → IsWordUrl (head_only url)
head-alone url is = record {
  scheme = is.scheme;
  username = is.username;
  password = is.password;
  host = is.host;
  port = is.port;
  path = All-nil (Passes is_visible);
  query = All-nil (Passes is_visible);
  fragment = All-nil (Passes is_visible);
}

relative-gives : (base : Parts) (body : List ℕ) → kind_of base ≡ SpecialNotFile → IsWordUrl base
    → GivesUrl base.scheme (parse_relative base body)
unfolding parse_relative
relative-gives base body kind is =
    let slashes = leading_slashes (kind_of base) body in
    let start = inherit base (slashes == 0) in
    let rest = drop slashes body in
    let path = λ (k : SchemeType). parse_path k start.path rest in
    let before : AreVisible start.path =
    cond_both (slashes == 0) (shorten_path (kind_of base) base.path) [] AreVisible
    (λ _. subst (λ k. AreVisible (shorten_path k base.path)) (sym kind) (shorten-visible base.path is.path))
    (λ _. All-nil (Passes is_visible)) in
    cond_both (slashes == 2) (after_double_slash base.scheme (after_slashes (kind_of base) body))
    (Ok (with_path start (path (kind_of base)))) (GivesUrl base.scheme)
    (λ _. slashes-give base.scheme (after_slashes (kind_of base) body) kind is.scheme)
    (λ _. (
      with-path start (path (kind_of base)) (with-path (head_only base) start.path (head-alone base is) before)
          (subst (λ k. AreVisible (path k)) (sym kind) (segments-visible start.path [] rest before)),
      refl,
    ))

-- ---- the whole

with-tail : (url : Parts) (query fragment : Option (List ℕ)) → kind_of url ≡ SpecialNotFile → IsWordUrl url
    → IsWordUrl (with_tail url query fragment)
with-tail url query fragment kind is = record {
  scheme = is.scheme;
  username = is.username;
  password = is.password;
  host = is.host;
  port = is.port;
  path = is.path;
  query = in-query query;
  fragment = in-fragment fragment;
}
  where
    in-query : (part : Option (List ℕ)) → AreVisibleIn (option_map (percent_encode (query_set (kind_of url))) part)
    in-query None = All-nil (Passes is_visible)
    in-query (Some text) =
        subst (λ k. AreVisible (percent_encode (query_set k) text)) (sym kind) (escaped-visible SPECIAL_QUERY refl text)

    in-fragment : (part : Option (List ℕ)) → AreVisibleIn (option_map (percent_encode FRAGMENT) part)
    in-fragment None = All-nil (Passes is_visible)
    in-fragment (Some text) = escaped-visible FRAGMENT refl text

-- where there is none there is nothing to show
abbrev IsIn : List ℕ → Option Parts → Type 0
IsIn scheme base = IfSome base (IsUrlOf scheme)

module _ (scheme : List ℕ) (http : IsTrue (is_http scheme)) (visible : AreVisible scheme) where
  kind : scheme_type scheme ≡ SpecialNotFile
  kind = http-kind scheme http

  not-file-gives : (base : Option Parts) (body : List ℕ) → IsIn scheme base
      → GivesUrl scheme (parse_not_file scheme base body)
  not-file-gives None body is =
      cond_both (is_special (scheme_type scheme)) (after_double_slash scheme (skip_slashes body))
      (parse_non_special scheme body) (GivesUrl scheme) (λ _. slashes-give scheme (skip_slashes body) kind visible)
      (λ other. absurd (let no : true ≡ false = sym (ap is_special kind) ∙ other in cc))
  not-file-gives (Some base) body is =
      subst (λ s. GivesUrl s (parse_relative base body)) is.1
      (relative-gives base body (ap scheme_type is.1 ∙ kind) is.0)

  body-gives : (base : Option Parts) (body : List ℕ) → IsIn scheme base → GivesUrl scheme (parse_body scheme base body)
  unfolding parse_body
  body-gives base body is =
      cond_both (is_file (scheme_type scheme)) (parse_file base body) (parse_not_file scheme base body) (GivesUrl scheme)
      (λ other. absurd (let no : true ≡ false = sym other ∙ ap is_file kind in cc)) (λ _. not-file-gives base body is)

  tailed : (url : Parts) (query fragment : Option (List ℕ)) → IsUrlOf scheme url
      → IsUrlOf scheme (with_tail (before_tail url query fragment) query fragment)
  tailed url query fragment is =
      let special : kind_of url ≡ SpecialNotFile = ap scheme_type is.1 ∙ kind in
      subst (λ u. IsUrlOf scheme (with_tail u query fragment)) (sym (before_special url query fragment (ap is_special special)))
      (with-tail url query fragment special is.0, is.1)

  all-gives : (base : Option Parts) (body : List ℕ) (query fragment : Option (List ℕ)) → IsIn scheme base
      → GivesUrl scheme (parse_all scheme base body query fragment)
  all-gives base body query fragment is =
      gives-then scheme (parse_body scheme base body) (IsUrlOf scheme)
      (λ url. Ok (with_tail (before_tail url query fragment) query fragment)) (body-gives base body is)
      (λ url made. tailed url query fragment made)

  parts-give : (base : Option Parts) (body : List ℕ) (query fragment : Option (List ℕ)) → IsIn scheme base
      → GivesUrl scheme (parse_parts scheme base body query fragment)
  unfolding parse_parts
  parts-give None body query fragment is = all-gives None body query fragment is
  parts-give (Some base) body query fragment is =
      cond_both (is_empty body) (Ok (with_tail base (option_or query base.query) fragment))
      (parse_all scheme (Some base) body query fragment) (GivesUrl scheme)
      (λ _. (with-tail base (option_or query base.query) fragment (ap scheme_type is.1 ∙ kind) is.0, is.1))
      (λ _. all-gives (Some base) body query fragment is)

-- ---- the scheme

-- a URL that is given has this scheme
abbrev HasScheme : List ℕ → Parsed Parts → Type 0
HasScheme scheme read = IfOk read (λ url. url.scheme ≡ scheme)

has-then : {T : Type 0} (scheme : List ℕ) (read : Parsed T) (next : T → Parsed Parts)
    → ((value : T) → HasScheme scheme (next value)) → HasScheme scheme (and_then read next)
has-then scheme (Ok value) next has = has value
has-then scheme (Err error) next has = tt

authority-has : (scheme bytes : List ℕ) → HasScheme scheme (parse_authority scheme bytes)
unfolding parse_authority
authority-has scheme bytes =
    let at = rsplit_once 64 bytes in
    let host_port = split_port at.1 in
    let userinfo = split_once 58 (unwrap_or at.0 []) in
    let port = parse_port scheme (unwrap_or host_port.1 []) in
    let made = λ (host : Host (List ℕ)) (n : Option ℕ).
    Ok (with_authority scheme userinfo.0 (unwrap_or userinfo.1 []) host n) in
    let read = and_then (parse_host (scheme_type scheme) host_port.0) (λ host. and_then port (made host)) in
    cond_both (lacks_host at.0 host_port.0 host_port.1) (Err EmptyHost) read (HasScheme scheme) (λ _. tt)
    (λ _. has-then scheme (parse_host (scheme_type scheme) host_port.0) (λ host. and_then port (made host))
    (λ host. has-then scheme port (made host) (λ n. refl)))

slashes-have : (scheme bytes : List ℕ) → HasScheme scheme (after_double_slash scheme bytes)
unfolding after_double_slash
slashes-have scheme bytes =
    let len = segment_len (scheme_type scheme) bytes in
    keep (parse_authority scheme (take len bytes)) (authority-has scheme (take len bytes))
    (parse_path_start (scheme_type scheme) [] (drop len bytes))
  where
    keep : (read : Parsed Parts) → HasScheme scheme read → (path : List ℕ)
        → HasScheme scheme (and_then read (λ head. Ok (with_path head path)))
    keep (Ok head) has path = has
    keep (Err error) has path = tt

plain-has : (scheme body : List ℕ) → HasScheme scheme (parse_non_special scheme body)
unfolding parse_non_special
plain-has scheme body =
    let slashes = leading_slashes NotSpecial body in
    let rooted = Ok (with_path (scheme_only scheme) (parse_path NotSpecial [] (drop 1 body))) in
    let opaque = Ok (with_path (scheme_only scheme) (percent_encode OPAQUE_PATH body)) in
    cond_both (slashes == 2) (after_double_slash scheme (drop 2 body)) (cond (slashes == 1) rooted opaque)
    (HasScheme scheme) (λ _. slashes-have scheme (drop 2 body))
    (λ _. cond_both (slashes == 1) rooted opaque (HasScheme scheme) (λ _. refl) (λ _. refl))

file-has : (body : List ℕ) → HasScheme (codes "file") (parse_file None body)
unfolding parse_file after_file_double_slash
file-has body =
    let rest = drop (leading_slashes File body) body in
    let len = segment_len File rest in
    let start = file_with_host (Domain []) in
    let drive = Ok (with_path start (parse_path File [] rest)) in
    let hosted = and_then (parse_file_host (take len rest)) (λ host.
    Ok (with_path (file_with_host host) (parse_path_start File [] (drop len rest)))) in
    cond_both (leading_slashes File body == 2) (cond (is_windows_drive_letter (take len rest)) drive hosted)
    (Ok (with_path start (parse_path File start.path rest))) (HasScheme (codes "file"))
    (λ _. cond_both (is_windows_drive_letter (take len rest)) drive hosted (HasScheme (codes "file")) (λ _. refl)
    (λ _. has-then (codes "file") (parse_file_host (take len rest)) (λ host.
    Ok (with_path (file_with_host host) (parse_path_start File [] (drop len rest)))) (λ host. refl)))
    (λ _. refl)

body-has : (scheme body : List ℕ) → HasScheme scheme (parse_body scheme None body)
unfolding parse_body
body-has scheme body =
    let other = cond (is_special (scheme_type scheme)) (after_double_slash scheme (skip_slashes body))
    (parse_non_special scheme body) in
    cond_both (is_file (scheme_type scheme)) (parse_file None body) other (HasScheme scheme)
    (λ file. subst (λ s. HasScheme s (parse_file None body))
    (sym (file_from_scheme_type scheme (file_from_is_file (scheme_type scheme) file))) (file-has body))
    (λ _. cond_both (is_special (scheme_type scheme)) (after_double_slash scheme (skip_slashes body))
    (parse_non_special scheme body) (HasScheme scheme) (λ _. slashes-have scheme (skip_slashes body))
    (λ _. plain-has scheme body))

all-has : (scheme body : List ℕ) (query fragment : Option (List ℕ))
    → HasScheme scheme (parse_all scheme None body query fragment)
all-has scheme body query fragment = keep (parse_body scheme None body) (body-has scheme body)
  where
    ended : (url : Parts) → url.scheme ≡ scheme → (before_tail url query fragment).scheme ≡ scheme
    ended url has =
        cond_both (not (is_special (kind_of url)) && (is_some query || is_some fragment))
        (with_path url (escape_end url.path)) url (λ (u : Parts). u.scheme ≡ scheme) (λ _. has) (λ _. has)

    keep : (read : Parsed Parts) → HasScheme scheme read
        → HasScheme scheme (and_then read (λ url. Ok (with_tail (before_tail url query fragment) query fragment)))
    keep (Ok url) has = ended url has
    keep (Err error) has = tt

-- ---- by the scheme

-- a base of words, which is http or https
abbrev IsBase : Option Parts → Type 0
IsBase base = IfSome base (λ url. IsWordUrl url × IsTrue (is_http url.scheme))

-- a URL that a read gives is of words, where it is http or https
abbrev GivesWords : Parsed Parts → Type 0
GivesWords read = IfOk read (λ url. IsTrue (is_http url.scheme) → IsWordUrl url)

visible-http : (scheme : List ℕ) → IsTrue (is_http scheme) → AreVisible scheme
visible-http scheme is =
    of-http scheme AreVisible is (AllPass-from_list_all is_visible (codes "http") refl)
    (AllPass-from_list_all is_visible (codes "https") refl)

words-where : (scheme : List ℕ) (read : Parsed Parts) → GivesUrl scheme read → GivesWords read
words-where scheme (Ok url) is = λ http. is.0
words-where scheme (Err error) is = tt

words-other : (scheme : List ℕ) (read : Parsed Parts) → is_http scheme ≡ false → HasScheme scheme read
    → GivesWords read
words-other scheme (Ok url) other has =
    λ http. absurd (let no : true ≡ false = sym http ∙ ap is_http has ∙ other in cc)
words-other scheme (Err error) other has = tt

-- the base that counts for a scheme
base-in : (base : Option Parts) (scheme : List ℕ) → IsBase base → IsIn scheme (base_for_scheme base scheme)
base-in None scheme is = tt
base-in (Some base) scheme is =
    cond_both (is_special (kind_of base) && bytes_eq base.scheme scheme) (Some base) None (IsIn scheme)
    (λ both. (is.0, (bytes_eq-Decides base.scheme scheme).0 (and_parts (is_special (kind_of base)) _ both).1)) (λ _. tt)

-- no base for another scheme than http and https
no-base : (base : Option Parts) (scheme : List ℕ) → IsBase base → is_http scheme ≡ false
    → base_for_scheme base scheme ≡ None
no-base None scheme is other = refl
no-base (Some base) scheme is other =
    cond_both (is_special (kind_of base) && bytes_eq base.scheme scheme) (Some base) None (λ b. b ≡ None)
    (λ both. absurd (
    let same = (bytes_eq-Decides base.scheme scheme).0 (and_parts (is_special (kind_of base)) _ both).1 in
    let no : true ≡ false = sym is.1 ∙ ap is_http same ∙ other in cc)) (λ _. refl)

parts-words : (scheme : List ℕ) (base : Option Parts) (body : List ℕ) (query fragment : Option (List ℕ)) → IsBase base
    → GivesWords (parse_parts scheme (base_for_scheme base scheme) body query fragment)
unfolding parse_parts
parts-words scheme base body query fragment is = by (is_http scheme) refl
  where
    by : (b : Bool) → is_http scheme ≡ b
        → GivesWords (parse_parts scheme (base_for_scheme base scheme) body query fragment)
    by true http =
        words-where scheme _ (parts-give scheme http (visible-http scheme http) (base_for_scheme base scheme) body query
        fragment (base-in base scheme is))
    by false other =
        subst (λ b. GivesWords (parse_parts scheme b body query fragment)) (sym (no-base base scheme is other))
        (words-other scheme (parse_all scheme None body query fragment) other (all-has scheme body query fragment))

without-words : (base : Option Parts) (body : List ℕ) (query fragment : Option (List ℕ)) → IsBase base
    → GivesWords (parse_without_scheme base body query fragment)
without-words None body query fragment is = tt
without-words (Some base) body query fragment is =
    let read = parse_parts base.scheme (Some base) body query fragment in
    cond_both (cannot_be_a_base base && not (is_fragment_only body query fragment))
    (Err RelativeUrlWithCannotBeABaseBase) read GivesWords (λ _. tt)
    (λ _. words-where base.scheme read
    (parts-give base.scheme is.1 is.0.scheme (Some base) body query fragment (is.0, refl)))

by-scheme : (split : Option (List ℕ × List ℕ)) (base : Option Parts) (body : List ℕ) (query fragment : Option (List ℕ))
    → IsBase base → GivesWords (parse_by_scheme split base body query fragment)
by-scheme None base body query fragment is = without-words base body query fragment is
by-scheme (Some split) base body query fragment is =
    parts-words (lowercase split.0) base split.1 query fragment is

-- a URL that a text gives, against a base of words
pub parse-words : (base : Option Parts) (text : List ℕ) (url : Parts) → IsBase base → parse_url base text ≡ Ok url
    → IsTrue (is_http url.scheme) → IsWordUrl url
unfolding parse_url
parse-words base text url is read http =
    let hash = split_once 35 (strip_tabs_and_new_lines (trim_c0_control_and_space text)) in
    let question = split_once 63 hash.0 in
    subst GivesWords read (by-scheme (split_scheme question.0) base question.0 question.1 hash.1 is) http
