-- The headers of a hop are lines: the names are tokens, and no value has a line end.
use Rattle.std.proofs.Common.{◌≡◌, ◌==◌, ℕ, Bool, true, false, not, List, [], ◌∷◌, length, Option, Some, None, codes}
use Rattle.std.proofs.Common.{bytes_eq, decimal, refl, sym, subst, arith, if◌then◌else◌, IfSome}
use Rattle.std.proofs.lemmas.Grind.{common_steps}
use Rattle.std.specs.Cmp.{second_so}
use Rattle.std.specs.List.{AllByRecursion, list_all}
use Rattle.value_text.specs.Tokens.{is_tchar, is_token}
use Rattle.value_headers.specs.declared.headers.Header.{Header}
use Rattle.value_headers.specs.Headers.{all_appended, contains}
use Rattle.value_origins.specs.Origins.{origin_of}
use Rattle.value_requests.specs.declared.client.Cookie.{Cookie}
use Rattle.value_requests.specs.declared.mode.Tainting.{Tainting}
use Rattle.value_requests.specs.declared.mode.Tainting.TheVariants as tainting
use Rattle.value_requests.specs.declared.request.Request.{Request}
use Rattle.value_requests.specs.Lines.{header, user_agent}
use Rattle.value_requests.specs.Methods.{is_get_or_head, is_post_or_put}
use Rattle.value_requests.specs.Modes.{is_cors_tainted}
use Rattle.policy_checks.specs.OriginHeader.{origin_value, referrer_value, told_origin}
use Rattle.value_requests.specs.Requests.{current_url}
use Rattle.policy_checks.specs.RequestOrigins.{serialized_request_origin}
use Rattle.value_requests.specs.Targets.{host_value, origin_text}
use Rattle.policy_preflight.specs.Preflight.{names_value, preflight_lines, preflight_of}
use Rattle.fetch_requests.specs.Heads.{added_lines, cookie_of, cookie_value, hop_of, includes_credentials, length_value}
use Rattle.fetch_requests.specs.Heads.{user_agent_value}
use Rattle.link_http1.specs.Blocks.{is_line_byte}
use Rattle.server_access.proofs.TokenLemmas.{all-joined, all-tchars}
use Rattle.server_access.proofs.ValueLemmas.{AreLines, IsLineText, lines-all_appended, lines-lines}
use Rattle.server_access.proofs.VisibleLemmas.{visible-decimal, visible-text}

-- a value, where there is one, is on one line
abbrev pub IsLineWhere : Option (List ℕ) → Type 0
IsLineWhere value = IfSome value IsLineText

-- the cookie is
abbrev pub IsCookie : Cookie → Type 0
IsCookie cookie = IsLineText cookie.value

-- What the lines of a request take from elsewhere is on one line.
pub record HasLines (request : Request) : Type 0 where
  pub host : IsLineText (host_value (current_url request))
  pub referrer : IsLineWhere (referrer_value request.referrer)
  pub origin : IsLineText (serialized_request_origin request)

agent-line : (headers : List Header) → IsLineWhere (user_agent_value headers)
agent-line headers = by-test (contains (codes "User-Agent") headers)
  where
    by-test : (b : Bool) → IsLineWhere (if b then None else Some user_agent)
    by-test true = tt
    by-test false = refl

origin-line : (request : Request) → request.tainting ≡ tainting.Cors → HasLines request
    → IsLineWhere (origin_value request (current_url request))
origin-line request tainted has =
    subst (λ (t : Tainting). IsLineWhere (if is_cors_tainted t then Some (serialized_request_origin request)
    else if is_get_or_head request.method then None
    else Some (told_origin request (current_url request)))) (sym tainted) has.origin

first-cookie : (origin : List ℕ) (cookies : List Cookie) → AllByRecursion IsCookie cookies
    → IsLineWhere (cookie_of origin cookies)
first-cookie origin [] all = tt
first-cookie origin (cookie ∷ cookies) all =
    by-test (bytes_eq cookie.origin origin) (first-cookie origin cookies all.1)
  where
    by-test : (b : Bool) → IsLineWhere (cookie_of origin cookies)
        → IsLineWhere (if b then Some cookie.value else cookie_of origin cookies)
    by-test true rest = all.0
    by-test false rest = rest

cookie-line : (cookies : List Cookie) (request : Request) → AllByRecursion IsCookie cookies
    → IsLineWhere (cookie_value cookies request (current_url request))
cookie-line cookies request all = by-test (includes_credentials request.credentials request.tainting)
  where
    by-test : (b : Bool) → IsLineWhere (if b then cookie_of (origin_text (origin_of (current_url request))) cookies
        else None)
    by-test true = first-cookie (origin_text (origin_of (current_url request))) cookies all
    by-test false = tt

length-line : (method : List ℕ) (body : Option (List ℕ)) → IsLineWhere (length_value method body)
length-line method (Some body) = visible-text (decimal (length body)) (visible-decimal (length body))
length-line method None = by-test (is_post_or_put method)
  where
    by-test : (b : Bool) → IsLineWhere (if b then Some (codes "0") else None)
    by-test true = refl
    by-test false = tt

pub hop-lines : (cookies : List Cookie) (request : Request) → request.tainting ≡ tainting.Cors
    → AllByRecursion IsCookie cookies → HasLines request → AreLines request.headers
    → AreLines (hop_of cookies request).headers
hop-lines cookies request tainted all has own =
    let url = current_url request in
    let before = header (codes "Host") (host_value url) ∷ request.headers in
    lines-lines (added_lines cookies request url) (all_appended before []) (
      (refl, agent-line request.headers),
      (
        (refl, refl),
        (
          (refl, has.referrer),
          (
            (refl, origin-line request tainted has),
            (
              (refl, cookie-line cookies request all),
              ((refl, length-line request.method request.body), ((refl, refl), tt)),
            ),
          ),
        ),
      ),
    )
    (lines-all_appended before [] (record { name = refl; value = has.host }, own) tt)

tchar-line : (byte : ℕ) → is_tchar byte ≡ true → is_line_byte byte ≡ true
tchar-line byte is = grind (arith, common_steps)

names-line : (names : List (List ℕ)) → list_all is_token names ≡ true → IsLineWhere (names_value names)
names-line [] all = tt
names-line (name ∷ names) all = all-joined is_line_byte refl tchar-line name names all

method-line : (method : List ℕ) → is_token method ≡ true → IsLineText method
method-line method is =
    all-tchars is_line_byte tchar-line method
    (second_so (not (length method == 0)) (list_all is_tchar method) is)

pub preflight-hop_lines : (request : Request) (names : List (List ℕ)) → is_token request.method ≡ true
    → list_all is_token names ≡ true → HasLines request → AreLines (preflight_of request names).headers
preflight-hop_lines request names method tokens has =
    lines-lines (preflight_lines request names (current_url request)) [] (
      (refl, has.host),
      (
        (refl, refl),
        (
          (refl, method-line request.method method),
          (
            (refl, names-line names tokens),
            ((refl, refl), ((refl, refl), ((refl, has.referrer), ((refl, has.origin), ((refl, refl), tt))))),
          ),
        ),
      ),
    ) tt

-- the names of lines are tokens
pub names-tokens : (headers : List Header) → AreLines headers
    → AllByRecursion (λ (one : Header). is_token one.name ≡ true) headers
names-tokens [] lines = tt
names-tokens (one ∷ more) lines = (lines.0.name, names-tokens more lines.1)
