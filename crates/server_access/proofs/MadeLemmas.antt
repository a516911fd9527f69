-- The request that a script's `fetch` makes in mode cors: what it takes of its init, and that its headers have no name
-- that only the user agent sets.
use Rattle.std.proofs.Common.{◌≡◌, ℕ, Bool, true, false, not, ◌||◌, List, [], ◌∷◌, ◌++◌, Option, Some, None}
use Rattle.std.proofs.Common.{Result, Ok, Err, codes, refl, ap, sym, subst, ◌∙◌, arith, if◌then◌else◌}
use Rattle.std.proofs.lemmas.List.Folds.{list_any-from_Any}
use Rattle.std.specs.Str.{str_eq_ignore_ascii_case}
use Rattle.url.specs.Parts.{Parts}
use Rattle.value_text.specs.Tokens.{is_token}
use Rattle.value_text.specs.Values.{is_header_value}
use Rattle.value_headers.proofs.SpellingLemmas.{fold-sym}
use Rattle.value_headers.specs.declared.headers.Header.{Header}
use Rattle.value_headers.specs.Headers.{appended, contains, values_of}
use Rattle.value_requests.specs.declared.client.Client.{Client}
use Rattle.value_requests.specs.declared.fault.TypeFault.{TypeFault}
use Rattle.value_requests.specs.declared.init.Init.{Init}
use Rattle.value_requests.specs.declared.init.Pair.{Pair}
use Rattle.value_requests.specs.declared.mode.Mode.{Mode}
use Rattle.value_requests.specs.declared.mode.Mode.TheVariants as mode
use Rattle.value_requests.specs.declared.policy.Destination.TheVariants as destination
use Rattle.value_requests.specs.declared.request.Request.{Request}
use Rattle.policy_safelist.specs.declared.guard.Appended.{Appended}
use Rattle.policy_safelist.specs.declared.guard.Appended.TheVariants.{Kept, Ignored, BadName, BadValue}
use Rattle.policy_safelist.specs.declared.guard.Guard.{Guard}
use Rattle.policy_safelist.specs.declared.guard.Guard.TheVariants as guard
use Rattle.policy_safelist.specs.Forbidden.{forbidden_names, has_forbidden_prefix, is_forbidden_header}
use Rattle.policy_safelist.specs.Forbidden.{overrides_with_forbidden_method}
use Rattle.policy_safelist.specs.Guards.{allows, list_after, outcome}
use Rattle.policy_safelist.specs.Names.{is_among}
use Rattle.fetch_requests.specs.Making.{accept_value, fault_or, faults, filled, first_fault, guard_of, header_list}
use Rattle.fetch_requests.specs.Making.{made}
use Rattle.fetch_requests.specs.Making.{new_request, request_for, unless_there, url_given, with_body_type}
use Rattle.fetch_requests.proofs.RequestLemmas.{made-valid}
use Rattle.server_access.proofs.ValueLemmas.{AreLines, IsLineText, lines-appended, value_if, values-appended}
use Rattle.server_heard.proofs.TextLemmas.{header_value-line}

-- ---- the request

-- It was made without a fault, of a URL.
pub record IsMade (client : Client) (init : Init) (request : Request) : Type 0 where
  pub url : Parts
  pub faultless : first_fault (faults init url) ≡ None
  pub is : request ≡ made client init url

pub made-is : (client : Client) (init : Init) (request : Request) → new_request client init ≡ Ok request
    → IsMade client init request
made-is client init request same = by-url (url_given client init.url) same
  where
    by-fault : (url : Parts) (fault : Option TypeFault) → first_fault (faults init url) ≡ fault
        → fault_or fault (made client init url) ≡ Ok request → IsMade client init request
    by-fault url None none same = record { url = url; faultless = none; is = cc same }
    by-fault url (Some fault) none same = absurd (cc)

    by-url : (url : Result Parts TypeFault) → request_for client init url ≡ Ok request → IsMade client init request
    by-url (Err fault) same = absurd (cc)
    by-url (Ok url) same = by-fault url (first_fault (faults init url)) refl same

-- ---- its headers

-- a header of this name is forbidden
abbrev pub IsForbidden : List ℕ → Type 0
IsForbidden name =
    (other value : List ℕ) → str_eq_ignore_ascii_case other name ≡ true → is_forbidden_header other value ≡ true

among-forbidden : (other value : List ℕ) → is_among forbidden_names other ≡ true
    → is_forbidden_header other value ≡ true
among-forbidden other value is =
    ap (λ (b : Bool). b || has_forbidden_prefix other || overrides_with_forbidden_method other value) is

pub origin-forbidden : IsForbidden (codes "Origin")
origin-forbidden other value same =
    among-forbidden other value
    (list_any-from_Any (λ listed. str_eq_ignore_ascii_case listed other) forbidden_names
    (13, codes "Origin", omega arith, refl, fold-sym other (codes "Origin") same))

pub method-forbidden : IsForbidden (codes "Access-Control-Request-Method")
method-forbidden other value same =
    among-forbidden other value
    (list_any-from_Any (λ listed. str_eq_ignore_ascii_case listed other) forbidden_names (
      3,
      codes "Access-Control-Request-Method",
      omega arith,
      refl,
      fold-sym other (codes "Access-Control-Request-Method") same,
    ))

module _ (name : List ℕ) (forbidden : IsForbidden name) where
  -- what is kept has another name
  kept-other : (other value : List ℕ) (headers : List Header)
      → outcome guard.Request other value headers ≡ Kept → str_eq_ignore_ascii_case other name ≡ false
  kept-other other value headers kept = by-name (str_eq_ignore_ascii_case other name) refl
    where
      never : (a b : Bool) → (if a then BadName else if b then BadValue else Ignored) ≡ Kept → ⊥
      never true b same = absurd (cc)
      never false true same = absurd (cc)
      never false false same = absurd (cc)

      by-name : (b : Bool) → str_eq_ignore_ascii_case other name ≡ b → b ≡ false
      by-name true is =
          absurd (never (not (is_token other)) (not (is_header_value value))
          (sym (ap (λ (c : Bool). if not (is_token other) then BadName
          else if not (is_header_value value) then BadValue
          else if not c then Kept else Ignored) (forbidden other value is)) ∙ kept))
      by-name false is = refl

  -- so the values of the name stay none
  one-kept : (what : Appended) (other value : List ℕ) (headers : List Header)
      → outcome guard.Request other value headers ≡ what → values_of name headers ≡ []
      → values_of name (list_after what other value headers) ≡ []
  one-kept Kept other value headers is none =
      values-appended name other value headers
      ∙ ap (λ (l : List (List ℕ)). l ++ value_if (str_eq_ignore_ascii_case other name) value) none
      ∙ ap (λ (b : Bool). value_if b value) (kept-other other value headers is)
  one-kept what other value headers is none = none

  filled-none : (pairs : List Pair) (headers : List Header) → values_of name headers ≡ []
      → values_of name (filled guard.Request pairs headers) ≡ []
  filled-none [] headers none = none
  filled-none (pair ∷ pairs) headers none =
      filled-none pairs
      (list_after (outcome guard.Request pair.name pair.value headers) pair.name pair.value headers)
      (one-kept (outcome guard.Request pair.name pair.value headers) pair.name pair.value headers refl none)

  there-none : (other value : List ℕ) (headers : List Header) → str_eq_ignore_ascii_case other name ≡ false
      → values_of name headers ≡ [] → values_of name (unless_there other value headers) ≡ []
  there-none other value headers differ none = by-there (contains other headers)
    where
      by-there : (b : Bool) → values_of name (if b then headers else appended other value headers) ≡ []
      by-there true = none
      by-there false =
          values-appended name other value headers
          ∙ ap (λ (l : List (List ℕ)). l ++ value_if (str_eq_ignore_ascii_case other name) value) none
          ∙ ap (λ (b : Bool). value_if b value) differ

  body-none : (body : Option (List ℕ)) (headers : List Header)
      → str_eq_ignore_ascii_case (codes "Content-Type") name ≡ false
      → values_of name headers ≡ [] → values_of name (with_body_type body headers) ≡ []
  body-none None headers differ none = none
  body-none (Some body) headers differ none =
      there-none (codes "Content-Type") (codes "text/plain;charset=UTF-8") headers differ none

  -- the list of a request in mode cors has no header of the name
  pub list-none : (init : Init) → init.mode ≡ mode.Cors
      → str_eq_ignore_ascii_case (codes "Content-Type") name ≡ false
      → str_eq_ignore_ascii_case (codes "Accept") name ≡ false → values_of name (header_list init) ≡ []
  list-none init is content accept =
      ap (λ (m : Mode). values_of name (unless_there (codes "Accept") (accept_value destination.Fetch)
      (with_body_type init.body (filled (guard_of m) init.headers [])))) is
      ∙ there-none (codes "Accept") (accept_value destination.Fetch)
      (with_body_type init.body (filled guard.Request init.headers [])) accept
      (body-none init.body (filled guard.Request init.headers []) content (filled-none init.headers [] refl))

-- ---- lines

-- what is kept has a token as its name, and a header value
kept-parts : (name value : List ℕ) (headers : List Header) → outcome guard.Request name value headers ≡ Kept
    → (is_token name ≡ true) × (is_header_value value ≡ true)
kept-parts name value headers kept = by-tests (is_token name) (is_header_value value) kept
  where
    by-tests : (a b : Bool) → (if not a then BadName else if not b then BadValue
        else if allows guard.Request name value headers then Kept else Ignored) ≡ Kept → (a ≡ true) × (b ≡ true)
    by-tests true true same = (refl, refl)
    by-tests true false same = absurd (cc)
    by-tests false b same = absurd (cc)

one-line : (what : Appended) (name value : List ℕ) (headers : List Header)
    → outcome guard.Request name value headers ≡ what → AreLines headers
    → AreLines (list_after what name value headers)
one-line Kept name value headers is lines =
    let parts = kept-parts name value headers is in
    lines-appended name value headers parts.0 (header_value-line value parts.1) lines
one-line what name value headers is lines = lines

filled-lines : (pairs : List Pair) (headers : List Header) → AreLines headers
    → AreLines (filled guard.Request pairs headers)
filled-lines [] headers lines = lines
filled-lines (pair ∷ pairs) headers lines =
    filled-lines pairs
    (list_after (outcome guard.Request pair.name pair.value headers) pair.name pair.value headers)
    (one-line (outcome guard.Request pair.name pair.value headers) pair.name pair.value headers refl lines)

there-lines : (name value : List ℕ) (headers : List Header) → is_token name ≡ true → IsLineText value
    → AreLines headers → AreLines (unless_there name value headers)
there-lines name value headers token on_line lines = by-there (contains name headers)
  where
    by-there : (b : Bool) → AreLines (if b then headers else appended name value headers)
    by-there true = lines
    by-there false = lines-appended name value headers token on_line lines

body-lines : (body : Option (List ℕ)) (headers : List Header) → AreLines headers
    → AreLines (with_body_type body headers)
body-lines None headers lines = lines
body-lines (Some body) headers lines =
    there-lines (codes "Content-Type") (codes "text/plain;charset=UTF-8") headers refl refl lines

list-lines : (init : Init) → init.mode ≡ mode.Cors → AreLines (header_list init)
list-lines init is =
    subst (λ (g : Guard). AreLines (unless_there (codes "Accept") (accept_value destination.Fetch)
    (with_body_type init.body (filled g init.headers [])))) (sym (ap guard_of is))
    (there-lines (codes "Accept") (accept_value destination.Fetch)
    (with_body_type init.body (filled guard.Request init.headers [])) refl refl
    (body-lines init.body (filled guard.Request init.headers []) (filled-lines init.headers [] tt)))

-- ---- what a fetch needs of it

-- What counts of a request in mode cors to another origin.
pub record IsAway (client : Client) (request : Request) : Type 0 where
  pub mode_is : request.mode ≡ mode.Cors
  pub origin_is : request.origin ≡ client.origin
  pub destined : request.destination ≡ destination.Fetch
  pub unsafe : request.unsafe_request ≡ true
  pub trusting : request.integrity ≡ []
  pub no_origin : values_of (codes "Origin") request.headers ≡ []
  pub no_method : values_of (codes "Access-Control-Request-Method") request.headers ≡ []
  pub method : is_token request.method ≡ true
  pub lines : AreLines request.headers

pub made-away : (client : Client) (init : Init) (request : Request) → new_request client init ≡ Ok request
    → init.mode ≡ mode.Cors → init.integrity ≡ [] → IsAway client request
made-away client init request same cors trusting =
    let so = made-is client init request same in
    record {
      mode_is = ap (λ (r : Request). r.mode) so.is ∙ cors;
      origin_is = ap (λ (r : Request). r.origin) so.is;
      destined = ap (λ (r : Request). r.destination) so.is;
      unsafe = ap (λ (r : Request). r.unsafe_request) so.is;
      trusting = ap (λ (r : Request). r.integrity) so.is ∙ trusting;
      no_origin = ap (λ (r : Request). values_of (codes "Origin") r.headers) so.is
          ∙ list-none (codes "Origin") origin-forbidden init cors refl refl;
      no_method = ap (λ (r : Request). values_of (codes "Access-Control-Request-Method") r.headers) so.is
          ∙ list-none (codes "Access-Control-Request-Method") method-forbidden init cors refl refl;
      method = (made-valid client init so.url request so.faultless so.is).method;
      lines = subst (λ (r : Request). AreLines r.headers) (sym so.is) (list-lines init cors);
    }
