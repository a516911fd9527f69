-- A request that is made is one.
use Rattle.std.proofs.Common.{◌≡◌, ℕ, Bool, true, false, ◌&&◌, ◌==◌, not, length, List, [], ◌∷◌, Option}
use Rattle.std.proofs.Common.{None, sym, subst}
use Rattle.std.proofs.Common.{refl, arith}
use Rattle.std.proofs.lemmas.Bool.{and_parts, not-false}
use Rattle.std.proofs.lemmas.Grind.{common_steps}
use Rattle.std.proofs.lemmas.List.{length-map}
use Rattle.std.specs.Char.{to_ascii_uppercase}
use Rattle.std.specs.List.{list_all}
use Rattle.std.specs.Prelude.{IsTrue, map, if◌then◌else◌}
use Rattle.std.specs.Str.{str_to_ascii_uppercase}
use Rattle.url.specs.Parts.{Parts, has_credentials}
use Rattle.value_text.specs.Tokens.{is_tchar, is_token}
use Rattle.value_requests.specs.declared.client.Client.{Client}
use Rattle.value_requests.specs.declared.fault.TypeFault.{TypeFault}
use Rattle.value_requests.specs.declared.fault.TypeFault.TheVariants.{UrlCredentials, BadMethod}
use Rattle.value_requests.specs.declared.init.Init.{Init}
use Rattle.value_requests.specs.declared.request.Request.{Request}
use Rattle.value_requests.specs.Methods.{is_normalized, normalized}
use Rattle.value_requests.specs.Requests.{IsRequest, is_http_referrer}
use Rattle.fetch_requests.specs.Making.{faults, first_fault, made, referrer_of}
use Rattle.std.specs.Bool.{then_some}

-- its referrer is no URL
referrer-http : (client_referrer : Bool) → IsTrue (is_http_referrer (referrer_of client_referrer))
referrer-http true = refl
referrer-http false = refl

-- a tchar in upper case is one
tchar-upper : (byte : ℕ) → is_tchar byte ≡ true → is_tchar (to_ascii_uppercase byte) ≡ true
tchar-upper byte is = grind (arith, common_steps)

-- a test that a function keeps holds of each item after it
all-mapped : (test : ℕ → Bool) (f : ℕ → ℕ) → ((byte : ℕ) → test byte ≡ true → test (f byte) ≡ true)
    → (text : List ℕ) → list_all test text ≡ true → list_all test (map f text) ≡ true
all-mapped test f keeps [] all = refl
all-mapped test f keeps (byte ∷ text) all = split (test byte) refl (all-mapped test f keeps text) all
  where
    split : (v : Bool) → test byte ≡ v → (list_all test text ≡ true → list_all test (map f text) ≡ true)
        → (v && list_all test text) ≡ true
        → (test (f byte) && list_all test (map f text)) ≡ true
    split true is more rest = rw (keeps byte is) (more rest)
    split false is more rest = cc

-- a token in upper case is one
token-upper : (text : List ℕ) → IsTrue (is_token text) → IsTrue (is_token (str_to_ascii_uppercase text))
token-upper text is =
    let parts = and_parts (not (length text == 0)) (list_all is_tchar text) is in
    rw (length-map text to_ascii_uppercase, parts.0)
    (all-mapped is_tchar to_ascii_uppercase tchar-upper text parts.1)

-- a token that is normalised is one
normalized-token : (method : List ℕ) → IsTrue (is_token method) → IsTrue (is_token (normalized method))
normalized-token method is =
    let P : Bool → Type 0 = λ b. IsTrue (is_token (if b then str_to_ascii_uppercase method else method)) in
    elim (is_normalized method) as P [ true ↦ token-upper method is | false ↦ is ]

-- no fault means that the method is a token
first-clear : (is : Bool) (fault : TypeFault) (more : List (Option TypeFault))
    → first_fault (then_some is fault ∷ more) ≡ None → (is ≡ false) × (first_fault more ≡ None)
first-clear true fault more none = absurd (cc)
first-clear false fault more none = (refl, none)

pub method-token : (init : Init) (url : Parts) → first_fault (faults init url) ≡ None → IsTrue (is_token init.method)
method-token init url none =
    let after_credentials = first-clear (has_credentials url) UrlCredentials _ none in
    let after_method = first-clear (not (is_token init.method)) BadMethod _ after_credentials.1 in
    not-false (is_token init.method) after_method.0

pub made-valid : (client : Client) (init : Init) (url : Parts) (request : Request)
    → first_fault (faults init url) ≡ None → request ≡ made client init url → IsRequest request
made-valid client init url request none is =
    let valid : IsRequest (made client init url) = record {
      method = normalized-token init.method (method-token init url none);
      urls = refl;
      redirects = omega arith;
      referrer = referrer-http init.client_referrer;
    } in
    subst (λ (r : Request). IsRequest r) (sym is) valid
