-- The last essence of values that are taken one by one.
use Rattle.std.proofs.Common.{◌≡◌, ◌+◌, ◌-◌, ℕ, zero, suc, List, [], ◌∷◌, ◌++◌, length, take, slice_get, refl, ap}
use Rattle.std.proofs.Common.{sym, ◌∙◌, arith, Option, Some, None, add-one, append-nil, length-append}
use Rattle.std.proofs.lemmas.List.Elements.{filter_map-append}
use Rattle.std.specs.List.{cons_option, filter_map}
use Rattle.std.specs.Option.{option_or}
use Rattle.value_lists.specs.Essence.{last_essence, last_of, specific_essence}

-- one value more is taken
take-one_more : (values : List (List ℕ)) (index : ℕ) (value : List ℕ) → slice_get values index ≡ Some value
    → take (suc index) values ≡ take index values ++ value ∷ []
take-one_more [] index value here = absurd (cc)
take-one_more (first ∷ values) zero value here =
    let same : first ≡ value = cc in
    ap (λ v. v ∷ []) same
take-one_more (first ∷ values) (suc index) value here = ap (λ l. first ∷ l) (take-one_more values index value here)

slice_get-end : (items : List (List ℕ)) (item : List ℕ) → slice_get (items ++ item ∷ []) (length items) ≡ Some item
slice_get-end [] item = refl
slice_get-end (first ∷ items) item = slice_get-end items item

-- the last of a list with one item more, or with none
last_of-more : (items : List (List ℕ)) (more : Option (List ℕ)) → last_of (items ++ cons_option more [])
    ≡ option_or more (last_of items)
last_of-more items None = ap last_of (append-nil items)
last_of-more items (Some item) =
    let end : length (items ++ item ∷ []) - 1 ≡ length items = omega (arith, length-append items (item ∷ [])) in
    ap (slice_get (items ++ item ∷ [])) end ∙ slice_get-end items item

last_essence-more : (values : List (List ℕ)) (index : ℕ) (value : List ℕ) → slice_get values index ≡ Some value
    → last_essence (take (index + 1) values) ≡ option_or (specific_essence value) (last_essence (take index values))
last_essence-more values index value here =
    let more : take (index + 1) values ≡ take index values ++ value ∷ [] =
    rw add-one (take-one_more values index value here) in
    ap last_essence more ∙ ap last_of (filter_map-append specific_essence (take index values) (value ∷ []))
    ∙ last_of-more (filter_map specific_essence (take index values)) (specific_essence value)

-- a value with an essence gives the last one
pub last_essence-Some : (values : List (List ℕ)) (index : ℕ) (value essence : List ℕ) → slice_get values index
    ≡ Some value → Some essence ≡ specific_essence value → Some essence ≡ last_essence (take (index + 1) values)
last_essence-Some values index value essence here found =
    sym (last_essence-more values index value here
    ∙ ap (λ o. option_or o (last_essence (take index values))) (sym found))

-- a value without one leaves it
pub last_essence-None : (values : List (List ℕ)) (index : ℕ) (value : List ℕ) → slice_get values index ≡ Some value
    → None ≡ specific_essence value → last_essence (take index values) ≡ last_essence (take (index + 1) values)
last_essence-None values index value here none =
    sym (last_essence-more values index value here
    ∙ ap (λ o. option_or o (last_essence (take index values))) (sym none))
