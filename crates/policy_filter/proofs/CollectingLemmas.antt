-- The names of a header list, collected one by one.
use Rattle.std.proofs.Common.{◌≡◌, ◌&&◌, ◌++◌, ◌∷◌, [], ℕ, Bool, true, false, List, cond, filter, inl, inr}
use Rattle.std.proofs.Common.{not, ◌||◌, refl, ap, sym, ◌∙◌, append_assoc, arith}
use Rattle.std.proofs.Common.{◌<◌, ◌+◌, suc, add-one, drop, drop-cons, get_or, length}
use Rattle.std.proofs.lemmas.Bool.{cases_Bool}
use Rattle.std.proofs.lemmas.Grind.{common_steps}
use Rattle.std.proofs.lemmas.List.Folds.{list_any-append}
use Rattle.std.specs.List.{list_any}
use Rattle.std.specs.Str.{str_eq_ignore_ascii_case}
use Rattle.value_headers.proofs.SpellingLemmas.{fold-trans}
use Rattle.value_headers.specs.declared.headers.Header.{Header}
use Rattle.policy_filter.proofs.KeepingLemmas.{filter-both}
use Rattle.policy_filter.specs.Exposed.{header_names}
use Rattle.policy_filter.specs.Private.Collecting.{is_new, with_new}

-- all are new where none was found
pub new_all : (names : List (List ℕ)) → filter (is_new []) names ≡ names
new_all [] = refl
new_all (name ∷ names) = ap (λ ns. name ∷ ns) (new_all names)

-- a name like one that was found is found
found-like : (found : List (List ℕ)) (name other : List ℕ) → str_eq_ignore_ascii_case name other ≡ true
    → list_any (λ one. str_eq_ignore_ascii_case one name) found ≡ true
    → list_any (λ one. str_eq_ignore_ascii_case one other) found ≡ true
found-like [] name other same e = e
found-like (one ∷ found) name other same e =
    elim (cases_Bool (str_eq_ignore_ascii_case one name)) [
      | inl here ↦ rw (fold-trans one name other here same) refl
      | inr away ↦ grind (arith, common_steps, found-like found name other same (rw away at e))
    ]

-- a name like one that is not new is not new, and each other is as it was
old-of-name : (found : List (List ℕ)) (name other : List ℕ) (same : Bool)
    → str_eq_ignore_ascii_case name other ≡ same → is_new found name ≡ false
    → is_new found other ≡ (not same && is_new found other)
old-of-name found name other true e old = rw (found-like found name other e (grind arith)) refl
old-of-name found name other false e old = refl

-- neither of two, the other way round
both : (a b : Bool) → not (a || (b || false)) ≡ (not b && not a)
both true true = refl
both true false = refl
both false true = refl
both false false = refl

-- what is new to one name more
new-to-more : (found : List (List ℕ)) (name other : List ℕ)
    → is_new (found ++ name ∷ []) other ≡ (not (str_eq_ignore_ascii_case name other) && is_new found other)
new-to-more found name other =
    ap not (list_any-append (λ one. str_eq_ignore_ascii_case one other) found (name ∷ []))
    ∙ both (list_any (λ one. str_eq_ignore_ascii_case one other) found) (str_eq_ignore_ascii_case name other)

-- a name is added, or is not
step-by : (found : List (List ℕ)) (name : List ℕ) (rest : List (List ℕ)) (new : Bool) → is_new found name ≡ new
    → (cond new (found ++ name ∷ []) found) ++ filter (is_new (cond new (found ++ name ∷ []) found)) rest
    ≡ found ++ filter (is_new found) (name ∷ filter (λ other. not (str_eq_ignore_ascii_case name other)) rest)
step-by found name rest true e =
    append_assoc found (name ∷ []) _
    ∙ ap (λ ns. found ++ name ∷ ns)
    (sym (filter-both (is_new found) (λ other. not (str_eq_ignore_ascii_case name other)) (is_new (found ++ name ∷ []))
    (λ other. new-to-more found name other) rest))
    ∙ rw e refl
step-by found name rest false e =
    ap (λ ns. found ++ ns)
    (sym (filter-both (is_new found) (λ other. not (str_eq_ignore_ascii_case name other)) (is_new found)
    (λ other. old-of-name found name other (str_eq_ignore_ascii_case name other) refl e) rest))
    ∙ rw e refl

-- the next name is added where it is new, and later ones like it are not
pub name_step : (found : List (List ℕ)) (header : Header) (headers : List Header)
    → with_new header.name found ++ filter (is_new (with_new header.name found)) (header_names headers)
    ≡ found ++ filter (is_new found) (header_names (header ∷ headers))
name_step found header headers =
    step-by found header.name (header_names headers) (is_new found header.name) refl

-- the next header is looked at
pub collected-step : (headers : List Header) (i : ℕ) (header : Header) (found new whole : List (List ℕ))
    → i < length headers → header ≡ get_or headers i header → new ≡ with_new header.name found
    → found ++ filter (is_new found) (header_names (drop i headers)) ≡ whole
    → new ++ filter (is_new new) (header_names (drop (i + 1) headers)) ≡ whole
collected-step headers i header found new whole lt is n h =
    let next : drop i headers ≡ header ∷ drop (i + 1) headers =
    rw (add-one i) (drop-cons headers i header lt ∙ ap (λ (h : Header). h ∷ drop (suc i) headers) (sym is)) in
    rw n (name_step found header (drop (i + 1) headers)
    ∙ ap (λ hs. found ++ filter (is_new found) (header_names hs)) (sym next) ∙ h)
