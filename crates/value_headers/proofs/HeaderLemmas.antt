-- What the loops over header lists come to.
use Rattle.std.proofs.Common.{arith, ◌≡◌, ◌<◌, ◌≤◌, ◌++◌, ◌∷◌, [], ℕ, zero, suc, Bool, true, false, List, length}
use Rattle.std.proofs.Common.{option_map, slice_get, ap, cond, refl, Option, Some, codes, append_assoc}
use Rattle.std.specs.List.{insert, remove}
use Rattle.std.proofs.lemmas.Grind.{common_steps}
use Rattle.value_headers.specs.Headers.{joined, after_comma, without, with_only}
use Rattle.value_headers.specs.Private.Places.{first_of}
use Rattle.value_headers.specs.declared.headers.Header.{Header}

-- what was joined so far, and the values that are left
abbrev pub onto : Bool → List ℕ → List (List ℕ) → Option (List ℕ)
onto false text values = joined values
onto true text values = Some (text ++ after_comma values)

-- one value more is joined
pub onto-added : (found : Bool) (text value : List ℕ) (values : List (List ℕ)) → (found ≡ false → text ≡ [])
    → onto true (cond found (text ++ (codes ", " ++ value)) (text ++ value)) values ≡ onto found text (value ∷ values)
onto-added true text value values nothing =
    ap (λ (l : List ℕ). let o : Option (List ℕ) = Some l in
    o) (append_assoc text (codes ", " ++ value) (after_comma values))
onto-added false text value values nothing =
    ap (λ (l : List ℕ). let o : Option (List ℕ) = Some ((l ++ value) ++ after_comma values) in o) (nothing refl)

-- deleting a name keeps at least the headers before its first one
pub without-room : (name : List ℕ) (headers : List Header) (at : ℕ) → at ≡ first_of name headers → at < length headers
    → at ≤ length (without name (remove headers at))
without-room name [] at e lt = omega (arith, lt)
without-room name (header ∷ headers) zero e lt = grind (arith, common_steps)
without-room name (header ∷ headers) (suc at) e lt = grind (arith, common_steps, without-room name headers at)

-- a header in the place of the first of its name, among what deleting the name leaves of the others
pub with_only-found : (name : List ℕ) (headers : List Header) (at : ℕ) (field : Header)
    → at ≡ first_of name headers → at < length headers
    → option_map (λ (header : Header). header.name) (slice_get headers at) ≡ Some field.name
    → insert (without name (remove headers at)) at field ≡ with_only name field.value headers
with_only-found name [] at field e lt is = grind arith
with_only-found name (header ∷ headers) zero field e lt is = grind (arith, common_steps)
with_only-found name (header ∷ headers) (suc at) field e lt is =
    grind (arith, common_steps, with_only-found name headers at field)

pub with_only-missing : (name value : List ℕ) (headers : List Header) → length headers ≤ first_of name headers
    → with_only name value headers ≡ headers ++ record { name = name; value = value } ∷ []
with_only-missing name value [] e = refl
with_only-missing name value (header ∷ headers) e = grind (arith, common_steps, with_only-missing name value headers)
