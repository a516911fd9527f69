-- The values of a name in a list of which some headers were taken out.
use Rattle.std.proofs.Common.{◌≡◌, ◌∷◌, [], ℕ, Bool, List, Bor, filter, map, refl, sym, ◌∙◌, inl, inr, arith}
use Rattle.std.proofs.lemmas.Bool.{cases_Bool}
use Rattle.std.proofs.lemmas.Grind.{common_steps}
use Rattle.std.proofs.lemmas.Slice.Eq.{bytes_eq-Decides}
use Rattle.std.specs.List.{list_any}
use Rattle.std.specs.Prelude.{IsTrue, bytes_eq}
use Rattle.std.specs.Str.{str_eq_ignore_ascii_case}
use Rattle.value_headers.proofs.SpellingLemmas.{fold-sym}
use Rattle.value_headers.specs.declared.headers.Header.{Header}
use Rattle.value_headers.specs.Headers.{is_named, values_of}
use Rattle.policy_checks.specs.PermittedNames.{has_name_among, only_named}

-- the headers of a name are all kept where each header of this name is
pub named-kept : (keep : Header → Bool) (name : List ℕ)
    → ((header : Header) → IsTrue (is_named name header) → IsTrue (keep header))
    → (headers : List Header) → filter (is_named name) (filter keep headers) ≡ filter (is_named name) headers
named-kept keep name keeps [] = refl
named-kept keep name keeps (header ∷ headers) =
    grind (arith, common_steps, keeps header, named-kept keep name keeps headers)

-- so the values of the name are the same
pub values-kept : (keep : Header → Bool) (name : List ℕ)
    → ((header : Header) → IsTrue (is_named name header) → IsTrue (keep header))
    → (headers : List Header) → values_of name (filter keep headers) ≡ values_of name headers
values-kept keep name keeps headers = rw (named-kept keep name keeps headers) refl

-- a header of a name has a name among those that hold it
pub among-named : (names : List (List ℕ)) (name : List ℕ) → IsTrue (list_any (λ other. bytes_eq other name) names)
    → (header : Header) → IsTrue (is_named name header) → IsTrue (has_name_among names header)
among-named [] name within header named = absurd (grind arith)
among-named (other ∷ names) name within header named =
    elim (cases_Bool (bytes_eq other name)) [
      | inl same ↦ rw ((bytes_eq-Decides other name).0 same, named) refl
      | inr differs ↦ grind (arith, common_steps, among-named names name (rw differs at within) header named)
    ]

-- the values of a name among the kept ones
pub values-only_named : (names : List (List ℕ)) (name : List ℕ)
    → IsTrue (list_any (λ other. bytes_eq other name) names)
    → (headers : List Header) → values_of name (only_named names headers) ≡ values_of name headers
values-only_named names name within headers =
    values-kept (has_name_among names) name (among-named names name within) headers

-- the order of two names does not matter
fold-comm : (a b : List ℕ) → str_eq_ignore_ascii_case a b ≡ str_eq_ignore_ascii_case b a
fold-comm a b =
    elim (cases_Bool (str_eq_ignore_ascii_case a b)) [
      | inl same ↦ same ∙ sym (fold-sym a b same)
      | inr differ ↦ elim (cases_Bool (str_eq_ignore_ascii_case b a)) [
        | inl same ↦ fold-sym b a same ∙ sym same
        | inr differ_too ↦ differ ∙ sym differ_too
      ]
    ]

-- names behind references
pub among_now : (names : List (Bor (List ℕ))) (header : Header)
    → list_any (λ name. str_eq_ignore_ascii_case name.now header.name) names
    ≡ has_name_among (map (λ name. name.now) names) header
among_now [] header = refl
among_now (name ∷ names) header = rw (fold-comm name.now header.name, among_now names header) refl
