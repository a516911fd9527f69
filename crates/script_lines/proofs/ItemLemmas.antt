-- The texts of items, one after the other.
use Rattle.std.proofs.Common.{◌≡◌, ℕ, ◌+◌, List, ◌++◌, drop, refl, suc, slice_get, Some, ap, ◌∙◌, add-one, drop-cons}
use Rattle.std.specs.List.{flat_map}
use Rattle.std.proofs.lemmas.Option.{get_or_from_slice_get, slice_get_within}

-- those from an index on
pub texts_from : {X : Type 0} (f : X → List ℕ) (items : List X) (index : ℕ) (item : X)
    → slice_get items index ≡ Some item → flat_map f (drop index items) ≡ f item ++ flat_map f (drop (index + 1) items)
texts_from f items index item is =
    ap (λ l. flat_map f l) (drop-cons items index item (slice_get_within items index item is))
    ∙ ap (λ x. f x ++ flat_map f (drop (suc index) items)) (get_or_from_slice_get items index item item is)
    ∙ rw (add-one index) refl
