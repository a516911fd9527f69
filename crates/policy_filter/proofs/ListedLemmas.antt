-- What is found in a set of exposed names is what is found in the list of them.
use Rattle.std.proofs.Common.{◌≡◌, ◌||◌, ◌&&◌, ◌∷◌, [], ℕ, Bool, true, false, List, filter, refl, ◌∙◌}
use Rattle.std.proofs.Common.{inl, inr}
use Rattle.std.proofs.lemmas.Bool.{cases_Bool, or_right}
use Rattle.std.specs.Prelude.{bytes_eq}
use Rattle.std.specs.Cmp.Lexicographic.{bytes_decides, nat_list_eq_equiv}
use Rattle.std.specs.List.{list_any}
use Rattle.std.specs.Str.{str_eq_ignore_ascii_case, str_to_ascii_lowercase}
use Rattle.value_lemmas.proofs.Bytes.{bytes_eq-self}
use Rattle.value_headers.specs.declared.headers.Header.{Header}
use Rattle.policy_checks.specs.PermittedNames.{has_name_among}
use Rattle.value_requests.specs.TextSets.{has_text}
use Rattle.policy_filter.specs.Private.Listing.{is_found, is_there}

-- ---- the names of the headers of a list

there-found : (test there : Bool) (rest any : Bool) → any ≡ (test && rest)
    → ((test && there) || any) ≡ (test && (there || rest))
there-found true there rest any is = rw is refl
there-found false there rest any is = is

other-found : (test mine : Bool) (any rest : Bool) → any ≡ (mine && rest) → ((test && false) || any) ≡ (mine && rest)
other-found true mine any rest is = is
other-found false mine any rest is = is

-- a name is found where it is there and in the set
found-there : (lower : List (List ℕ)) (name : List ℕ) (headers : List Header)
    → list_any (is_found lower name) headers
    ≡ (has_text lower (str_to_ascii_lowercase name) && is_there headers name)
found-there lower name [] = elim (cases_Bool (has_text lower (str_to_ascii_lowercase name))) [
  | inl there ↦ rw there refl
  | inr absent ↦ rw absent refl
]
found-there lower name (header ∷ headers) =
    elim (cases_Bool (bytes_eq header.name name)) [
      | inl same ↦
          let is : header.name ≡ name = (bytes_decides header.name name).0 same in
          rw (same, is) (there-found (has_text lower (str_to_ascii_lowercase name)) true (is_there headers name) _
          (found-there lower name headers))
      | inr away ↦
          rw away (other-found (has_text lower (str_to_ascii_lowercase header.name))
          (has_text lower (str_to_ascii_lowercase name)) _ (is_there headers name) (found-there lower name headers))
    ]

both-ways : (name : List ℕ) (names : List (List ℕ))
    → list_any (λ item. str_eq_ignore_ascii_case item name) names
    ≡ list_any (λ item. str_eq_ignore_ascii_case name item) names
both-ways name [] = refl
both-ways name (item ∷ names) =
    rw (both-ways name names, nat_list_eq_equiv.symm (str_to_ascii_lowercase item) (str_to_ascii_lowercase name)) refl

and-true : (a b : Bool) → b ≡ true → (a && b) ≡ a
and-true true b is = is
and-true false b is = refl

-- a header of the list is found where it has one of the names
pub found-named : (lower names found : List (List ℕ)) (headers : List Header)
    → ((text : List ℕ) → has_text lower (str_to_ascii_lowercase text)
    ≡ list_any (λ item. str_eq_ignore_ascii_case item text) names)
    → ((name : List ℕ) → has_text found name ≡ list_any (is_found lower name) headers)
    → (header : Header) → is_there headers header.name ≡ true
    → has_text found header.name ≡ has_name_among names header
found-named lower names found headers lowered are header there =
    are header.name ∙ (found-there lower header.name headers
    ∙ (and-true _ (is_there headers header.name) there ∙ (lowered header.name ∙ both-ways header.name names)))

-- ---- filters

-- two tests that come to the same of the headers of a list, each beside a third
pub filter-there : (p q r : Header → Bool) (headers : List Header)
    → ((header : Header) → is_there headers header.name ≡ true → p header ≡ q header)
    → filter (λ header. p header || r header) headers ≡ filter (λ header. q header || r header) headers
filter-there p q r [] same = refl
filter-there p q r (header ∷ headers) same =
    let here : p header ≡ q header = same header (rw (bytes_eq-self header.name) refl) in
    let rest : filter (λ header. p header || r header) headers ≡ filter (λ header. q header || r header) headers =
    filter-there p q r headers (λ other there. same other (or_right _ _ there)) in
    rw (here, rest) refl

-- the same of the tests alone
pub filter-alone : (p q : Header → Bool) (headers : List Header)
    → ((header : Header) → is_there headers header.name ≡ true → p header ≡ q header)
    → filter p headers ≡ filter q headers
filter-alone p q [] same = refl
filter-alone p q (header ∷ headers) same =
    let here : p header ≡ q header = same header (rw (bytes_eq-self header.name) refl) in
    let rest : filter p headers ≡ filter q headers =
    filter-alone p q headers (λ other there. same other (or_right _ _ there)) in
    rw (here, rest) refl
