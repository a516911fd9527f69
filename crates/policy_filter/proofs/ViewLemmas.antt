-- What the views keep of a head: the values that the rules of a fetch look at.
use Rattle.std.proofs.Common.{◌≡◌, ◌||◌, ◌∷◌, [], ℕ, Bool, true, false, not, List, codes, filter, refl, ap}
use Rattle.std.proofs.Common.{arith, inl, inr}
use Rattle.std.proofs.lemmas.Bool.{cases_Bool, or_left, or_right}
use Rattle.std.proofs.lemmas.Grind.{common_steps}
use Rattle.std.specs.List.{list_all, list_any}
use Rattle.std.specs.Prelude.{IsTrue, bytes_eq}
use Rattle.std.proofs.lemmas.Slice.Eq.{bytes_eq-Decides}
use Rattle.std.specs.Str.{str_eq_ignore_ascii_case, str_to_ascii_lowercase}
use Rattle.value_headers.proofs.ValueLemmas.{no-values}
use Rattle.value_headers.proofs.SpellingLemmas.{fold-sym, fold-trans}
use Rattle.value_headers.specs.declared.headers.Header.{Header}
use Rattle.value_lists.specs.declared.extract.Extracted.TheVariants.{Absent}
use Rattle.value_lists.specs.declared.extract.Rule.{Rule}
use Rattle.value_lists.specs.Extract.{extracted, extracted_of}
use Rattle.value_headers.specs.Headers.{contains, is_named}
use Rattle.policy_checks.proofs.NameLemmas.{among-named, values-kept}
use Rattle.value_requests.specs.declared.mode.Tainting.{Tainting}
use Rattle.value_requests.specs.declared.mode.Tainting.TheVariants as tainting
use Rattle.value_requests.specs.declared.request.Request.{Request}
use Rattle.policy_checks.specs.PermittedNames.{has_name_among}
use Rattle.policy_filter.specs.Exposed.{header_names}
use Rattle.policy_filter.specs.Names.{is_forbidden}
use Rattle.policy_filter.specs.Views.{checked_names, is_refused_by, is_told, is_told_cors, response_names}

-- ---- filters

-- what passes one test passes the other, so that the other takes nothing away
pub filter-within : (p q : Header → Bool) → ((h : Header) → p h ≡ true → q h ≡ true) → (headers : List Header)
    → filter p (filter q headers) ≡ filter p headers
filter-within p q within [] = refl
filter-within p q within (header ∷ headers) =
    grind (arith, common_steps, within header, filter-within p q within headers)

-- a filter twice
pub filter-twice : (p : Header → Bool) (headers : List Header) → filter p (filter p headers) ≡ filter p headers
filter-twice p headers = filter-within p p (λ header passes. passes) headers

-- ---- names

-- the test keeps each header of this name
abbrev pub Keeps : (Header → Bool) → List ℕ → Type 0
Keeps keep name = (header : Header) → IsTrue (is_named name header) → IsTrue (keep header)

-- the name is one of these
abbrev pub IsOneOf : List ℕ → List (List ℕ) → Type 0
IsOneOf name names = IsTrue (list_any (λ other. bytes_eq other name) names)

-- the test keeps each header that the check of this tainting rests on
abbrev pub KeepsChecked : (Header → Bool) → Tainting → Type 0
KeepsChecked keep tainting = (name : List ℕ) → IsOneOf name (checked_names tainting) → Keeps keep name

-- what has a name has no other
pub other-name : (name other : List ℕ) → str_eq_ignore_ascii_case name other ≡ false → (header : Header)
    → IsTrue (is_named name header) → is_named other header ≡ false
other-name name other differ header named =
    elim (cases_Bool (is_named other header)) [
      | inl same ↦
          absurd (grind (arith, differ, fold-trans name header.name other (fold-sym header.name name named) same))
      | inr away ↦ away
    ]

-- a header of the name is there, or is not
pub contains-kept : (keep : Header → Bool) (name : List ℕ) → Keeps keep name → (headers : List Header)
    → contains name (filter keep headers) ≡ contains name headers
contains-kept keep name keeps [] = refl
contains-kept keep name keeps (header ∷ headers) =
    grind (arith, common_steps, keeps header, contains-kept keep name keeps headers)

pub contains-fewer : (keep : Header → Bool) (name : List ℕ) (headers : List Header)
    → contains name headers ≡ false → contains name (filter keep headers) ≡ false
contains-fewer keep name [] none = refl
contains-fewer keep name (header ∷ headers) none =
    grind (arith, common_steps, contains-fewer keep name headers)

-- nothing is extracted of a name that is not there
pub absent-extracted : (rule : Rule) (name : List ℕ) (headers : List Header) → contains name headers ≡ false
    → extracted rule name headers ≡ Absent
absent-extracted rule name headers none = ap (extracted_of rule) (no-values name headers none)

-- ---- what each view keeps

pub told-checked : (tainting : Tainting) (names : List (List ℕ)) → KeepsChecked (is_told tainting names) tainting
told-checked tainting names name within header named =
    or_left _ (has_name_among names header) (among-named (checked_names tainting) name within header named)

pub told-named : (tainting : Tainting) (names : List (List ℕ)) (name : List ℕ) → IsOneOf name names
    → Keeps (is_told tainting names) name
told-named tainting names name within header named =
    or_right (has_name_among (checked_names tainting) header) _ (among-named names name within header named)

pub cors-told : (exposed : List (List ℕ)) (name : List ℕ) → Keeps (is_told tainting.Cors response_names) name
    → Keeps (is_told_cors exposed) name
cors-told exposed name keeps header named = or_right _ _ (keeps header named)

-- a name that is not forbidden
pub basic-named : (name : List ℕ) → str_eq_ignore_ascii_case name (codes "Set-Cookie") ≡ false
    → str_eq_ignore_ascii_case name (codes "Set-Cookie2") ≡ false → Keeps (λ header. not (is_forbidden header)) name
basic-named name first second header named =
    rw (
      other-name name (codes "Set-Cookie") first header named,
      other-name name (codes "Set-Cookie2") second header named,
    )
    refl

-- the check of a response comes to the same
pub refused-kept : (tainting : Tainting) (request : Request) (keep : Header → Bool) (headers : List Header)
    → KeepsChecked keep tainting → is_refused_by tainting request (filter keep headers)
    ≡ is_refused_by tainting request headers
refused-kept tainting.Basic request keep headers keeps = refl
refused-kept tainting.Cors request keep headers keeps =
    let origin = codes "Access-Control-Allow-Origin" in
    let credentials = codes "Access-Control-Allow-Credentials" in
    rw (
      values-kept keep origin (keeps origin refl) headers,
      values-kept keep credentials (keeps credentials refl) headers,
    )
    refl
refused-kept tainting.Opaque request keep headers keeps =
    let policy = codes "Cross-Origin-Resource-Policy" in
    rw (values-kept keep policy (keeps policy refl) headers) refl

-- ---- all names of a list

-- a name is itself
fold-refl : (name : List ℕ) → str_eq_ignore_ascii_case name name ≡ true
fold-refl name = (bytes_eq-Decides (str_to_ascii_lowercase name) (str_to_ascii_lowercase name)).1 refl

-- a name that is cut off a list of names was that of a header
among-cut : (names : List (List ℕ)) (header other : Header) → has_name_among names other ≡ true
    → (is_named header.name other || has_name_among (filter (λ name. not (is_named name header)) names) other) ≡ true
among-cut [] header other e = absurd (grind arith)
among-cut (name ∷ names) header other e =
    elim (cases_Bool (is_named name other)) [
      | inl here ↦ elim (cases_Bool (is_named name header)) [
        | inl same ↦
            or_left _ _ (fold-trans other.name name header.name here (fold-sym header.name name same))
        | inr differs ↦ rw differs (or_right (is_named header.name other) _ (rw here refl))
      ]
      | inr away ↦ elim (cases_Bool (is_named name header)) [
        | inl same ↦ rw same (among-cut names header other (rw away at e))
        | inr differs ↦ rw (differs, away) (among-cut names header other (rw away at e))
      ]
    ]

-- one test of each implies another
list_all-more : (p q : Header → Bool) → ((h : Header) → p h ≡ true → q h ≡ true) → (headers : List Header)
    → list_all p headers ≡ true → list_all q headers ≡ true
list_all-more p q more [] e = refl
list_all-more p q more (header ∷ headers) e =
    grind (arith, common_steps, more header, list_all-more p q more headers)

-- each header of a list has one of the list's names
all-named : (headers : List Header) → list_all (has_name_among (header_names headers)) headers ≡ true
all-named [] = refl
all-named (header ∷ headers) =
    let rest = list_all-more (has_name_among (header_names headers)) (has_name_among (header_names (header ∷ headers)))
    (λ other e. among-cut (header_names headers) header other e) headers (all-named headers) in
    rw (rest, fold-refl header.name) refl

-- a test that asks whether a header has one of the names, of headers that have
filter-named : (p : Bool → Header → Bool) (names : List (List ℕ)) (headers : List Header)
    → list_all (has_name_among names) headers ≡ true
    → filter (λ header. p (has_name_among names header) header) headers ≡ filter (p true) headers
filter-named p names [] e = refl
filter-named p names (header ∷ headers) e =
    elim (cases_Bool (has_name_among names header)) [
      | inl here ↦ rw here (elim (cases_Bool (p true header)) [
        | inl keeps ↦ rw keeps (ap (λ hs. header ∷ hs) (filter-named p names headers (rw here at e)))
        | inr drops ↦ rw drops (filter-named p names headers (rw here at e))
      ])
      | inr away ↦ absurd (grind (arith, common_steps, away))
    ]

-- so a test for the names of a list passes for each of its headers
pub filter-all_named : (p : Bool → Header → Bool) (headers : List Header)
    → filter (λ header. p (has_name_among (header_names headers) header) header) headers ≡ filter (p true) headers
filter-all_named p headers = filter-named p (header_names headers) headers (all-named headers)
