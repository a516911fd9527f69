-- What a request comes to by the row of its origin is what the table tells.
use Rattle.std.proofs.Common.{◌≡◌, ℕ, Bool, true, false, not, ◌&&◌, ◌||◌, ◌==◌, List, [], ◌∷◌, length, find}
use Rattle.std.proofs.Common.{Option, Some, None, refl, ap, sym, subst, ◌∙◌, true≢false, if◌then◌else◌, eqb-true, arith}
use mathlib.Core.Bool.{and-false}
use Rattle.std.proofs.lemmas.Bool.{or_parts}
use Rattle.std.specs.List.{list_all}
use Rattle.value_text.specs.Wildcards.{authorization}
use Rattle.value_headers.specs.Headers.{contains}
use Rattle.value_requests.specs.declared.error.NetError.{NetError}
use Rattle.value_requests.specs.declared.error.NetError.TheVariants as error
use Rattle.value_requests.specs.declared.request.Request.{Request}
use Rattle.value_requests.specs.declared.response.Outcome.{Outcome}
use Rattle.value_requests.specs.declared.response.Outcome.TheVariants.{Error}
use Rattle.value_requests.specs.Modes.{is_include}
use Rattle.value_requests.specs.Methods.{is_safelisted_method}
use Rattle.policy_safelist.specs.UnsafeNames.{unsafe_names}
use Rattle.fetch_rules.specs.Switch.{has_unsafe_names, needs_preflight}
use Rattle.server_tables.specs.declared.table.Row.{Row}
use Rattle.server_tables.specs.Tables.{lists, row_allows}
use Rattle.server_access.specs.Access.{IsReadOr, name_error, passes_method, refused_name, row_error}
use Rattle.server_access.proofs.BehindLemmas.{IsBehind, IsJudged}
use Rattle.server_access.proofs.ListLemmas.{and-true, none-not, some-not}
use Rattle.server_access.proofs.NameLemmas.{all-but, authorization-among}
use Rattle.server_access.proofs.RealLemmas.{IsReal}

-- the page is answered by the row of its origin
abbrev pub IsByRow : ℕ → Option Row → Request → Outcome → Type 0
IsByRow limit found request outcome =
    IsReadOr limit (row_allows found request.method (unsafe_names request.headers) (is_include request.credentials))
    (if needs_preflight request then row_error found request else error.CorsCheck) request outcome

-- it is refused, with this error
by-refusal : (limit : ℕ) (allowed : Bool) (reason told : NetError) (request : Request) (outcome : Outcome)
    → allowed ≡ false → told ≡ reason → outcome ≡ Error reason → IsReadOr limit allowed told request outcome
by-refusal limit allowed reason told request outcome denied same is =
    subst (λ (b : Bool). IsReadOr limit b told request outcome) (sym denied)
    (is ∙ ap (λ (e : NetError). Error e) (sym same))

-- ---- without a preflight

-- there are no CORS-unsafe request-header names then
no-names : (request : Request) → request.unsafe_request ≡ true → needs_preflight request ≡ false
    → unsafe_names request.headers ≡ []
no-names request unsafe needs =
    let more : (request.unsafe_request && (not (is_safelisted_method request.method) || has_unsafe_names request))
    ≡ false = (or_parts request.use_preflight _ needs).1 in
    let here : (not (is_safelisted_method request.method) || has_unsafe_names request) ≡ false =
    sym (ap (λ (b : Bool). b && (not (is_safelisted_method request.method) || has_unsafe_names request)) unsafe)
    ∙ more in
    by-length (unsafe_names request.headers)
    (or_parts (not (is_safelisted_method request.method)) (has_unsafe_names request) here).1
  where
    by-length : (names : List (List ℕ)) → not (length names == 0) ≡ false → names ≡ []
    by-length [] none = refl
    by-length (name ∷ names) none = by-test (length (name ∷ names) == 0) refl none
      where
        by-test : (b : Bool) → (length (name ∷ names) == 0) ≡ b → not b ≡ false → name ∷ names ≡ []
        by-test true is same =
            let zero_is : length (name ∷ names) ≡ 0 = eqb-true (length (name ∷ names)) 0 is in absurd (omega arith)
        by-test false is same = absurd (true≢false same)

pub by-real : (limit : ℕ) (found : Option Row) (request : Request) (outcome : Outcome) → request.unsafe_request ≡ true
    → needs_preflight request ≡ false → IsReal limit found request outcome → IsByRow limit found request outcome
by-real limit None request outcome unsafe needs is =
    by-refusal limit false error.CorsCheck _ request outcome refl
    (ap (λ (b : Bool). if b then row_error None request else error.CorsCheck) needs) is
by-real limit (Some row) request outcome unsafe needs is =
    let granted = not (is_include request.credentials) || row.credentials in
    let listed = lists row.methods request.method in
    subst (λ (b : Bool). IsReadOr limit (b && granted)
    (if needs_preflight request then row_error (Some row) request else error.CorsCheck) request outcome)
    (sym (ap (λ (names : List (List ℕ)). listed && list_all (lists row.names) names)
    (no-names request unsafe needs) ∙ and-true listed))
    (subst (λ (b : Bool). IsReadOr limit (listed && granted)
    (if b then row_error (Some row) request else error.CorsCheck) request outcome) (sym needs) is)

-- ---- behind a preflight

-- the two ways to say that credentials are not granted
same-test : (include credentials : Bool) → (include && not credentials) ≡ not (not include || credentials)
same-test true true = refl
same-test true false = refl
same-test false credentials = refl

module _ (limit : ℕ) (row : Row) (request : Request) where
  -- the row lists each of the names
  abbrev names_listed : Bool
  names_listed = list_all (lists row.names) (unsafe_names request.headers)

  -- Authorization is refused
  abbrev lacks_authorization : Bool
  lacks_authorization = contains authorization request.headers && not (lists row.names authorization)

  both-parts : (a b : Bool) → (a && not b) ≡ true → (a ≡ true) × (b ≡ false)
  both-parts true false is = (refl, refl)
  both-parts true true is = absurd (true≢false (sym is))
  both-parts false b is = absurd (true≢false (sym is))

  -- a name that is refused is not listed
  refused-not : (name : List ℕ) → refused_name row request ≡ Some name → names_listed ≡ false
  refused-not name is = by-test lacks_authorization refl is
    where
      by-test : (b : Bool) → lacks_authorization ≡ b
          → (if b then Some authorization else find (λ n. not (lists row.names n)) (unsafe_names request.headers))
          ≡ Some name → names_listed ≡ false
      by-test true lacks same =
          let parts = both-parts (contains authorization request.headers) (lists row.names authorization) lacks in
          all-but (lists row.names) authorization (unsafe_names request.headers)
          (authorization-among request.headers parts.0) parts.1
      by-test false lacks same = some-not (lists row.names) (unsafe_names request.headers) name same

  -- where none is, each is listed
  unrefused-all : refused_name row request ≡ None → names_listed ≡ true
  unrefused-all is = by-test lacks_authorization is
    where
      by-test : (b : Bool)
          → (if b then Some authorization else find (λ n. not (lists row.names n)) (unsafe_names request.headers))
          ≡ None → names_listed ≡ true
      by-test true same = absurd (cc)
      by-test false same = none-not (lists row.names) (unsafe_names request.headers) same

  abbrev granted : Bool
  granted = not (is_include request.credentials) || row.credentials

  abbrev listed : Bool
  listed = lists row.methods request.method

  -- the error, by what refuses
  abbrev error_of : Bool → Bool → Option (List ℕ) → NetError
  error_of grants allows refused =
      if not grants then error.PreflightCors else if not allows then error.PreflightMethod else name_error refused

  error-is : (grants allows : Bool) (refused : Option (List ℕ)) → granted ≡ grants
      → passes_method row request ≡ allows → refused_name row request ≡ refused
      → row_error (Some row) request ≡ error_of grants allows refused
  error-is grants allows refused p q r =
      ap (λ (b : Bool). if b then error.PreflightCors
      else if not (passes_method row request) then error.PreflightMethod else name_error (refused_name row request))
      (same-test (is_include request.credentials) row.credentials ∙ ap not p)
      ∙ ap (λ (b : Bool). if not grants then error.PreflightCors
      else if not b then error.PreflightMethod else name_error (refused_name row request)) q
      ∙ ap (λ (o : Option (List ℕ)). if not grants then error.PreflightCors
      else if not allows then error.PreflightMethod else name_error o) r

  by-judgement : (grants allows : Bool) (refused : Option (List ℕ)) (outcome : Outcome) → granted ≡ grants
      → passes_method row request ≡ allows → refused_name row request ≡ refused
      → IsJudged limit grants allows refused row request outcome
      → IsReadOr limit (listed && names_listed && granted) (row_error (Some row) request) request outcome
  by-judgement false allows refused outcome p q r is =
      by-refusal limit _ error.PreflightCors _ request outcome
      (ap (λ (b : Bool). listed && names_listed && b) p ∙ and-false (listed && names_listed))
      (error-is false allows refused p q r) is
  by-judgement true false refused outcome p q r is =
      by-refusal limit _ error.PreflightMethod _ request outcome
      (ap (λ (b : Bool). b && names_listed && granted)
      (or_parts listed (is_safelisted_method request.method)
      (or_parts (listed || is_safelisted_method request.method) _ q).0).0)
      (error-is true false refused p q r) is
  by-judgement true true (Some name) outcome p q r is =
      by-refusal limit _ (error.PreflightHeader name) _ request outcome
      (ap (λ (b : Bool). listed && b && granted) (refused-not name r)
      ∙ ap (λ (b : Bool). b && granted) (and-false listed))
      (error-is true true (Some name) p q r) is
  by-judgement true true None outcome p q r is =
      subst (λ (b : Bool). IsReadOr limit (b && granted) (row_error (Some row) request) request outcome)
      (sym (ap (λ (b : Bool). listed && b) (unrefused-all r) ∙ and-true listed))
      (subst (λ (e : NetError). IsReadOr limit (listed && granted) e request outcome)
      (sym (error-is true true None p q r))
      is)

pub by-behind : (limit : ℕ) (found : Option Row) (request : Request) (outcome : Outcome)
    → needs_preflight request ≡ true → IsBehind limit found request outcome → IsByRow limit found request outcome
by-behind limit None request outcome needs is =
    by-refusal limit false error.PreflightCors _ request outcome refl
    (ap (λ (b : Bool). if b then row_error None request else error.CorsCheck) needs) is
by-behind limit (Some row) request outcome needs is =
    subst (λ (b : Bool). IsReadOr limit
    (row_allows (Some row) request.method (unsafe_names request.headers) (is_include request.credentials))
    (if b then row_error (Some row) request else error.CorsCheck) request outcome) (sym needs)
    (by-judgement limit row request (not (is_include request.credentials) || row.credentials)
    (passes_method row request)
    (refused_name row request) outcome refl refl refl is)
