-- Steps of loops over lists.
use Rattle.std.proofs.Common.{arith, add-one, ◌≡◌, ◌<◌, ◌++◌, ◌+◌, ◌∷◌, [], ℕ, zero, suc, List, length, take, drop}
use Rattle.std.proofs.Common.{get_or, set, map, Bool, false, true, cond, ◌||◌, ◌==◌, Some, refl, subst, sym, ap}
use Rattle.std.proofs.Common.{◌∙◌}
use Rattle.std.specs.List.{fold, list_any, slice_get}
use Rattle.std.proofs.lemmas.List.{at_drop_more, get_or_default, take_more}
use Rattle.std.proofs.lemmas.List.Folds.{list_any_more}
use Rattle.std.proofs.lemmas.Option.{slice_get_within, get_or_from_slice_get}
use Rattle.std.proofs.lemmas.Grind.{common_steps}

-- a list that is mapped in place: the item that comes is as it was, and is then mapped
pub mapped-item : {X : Type 0} (f : X → X) (xs : List X) (i : ℕ) (x : X) → get_or (map f (take i xs) ++ drop i xs) i x
    ≡ get_or xs i x
mapped-item f [] zero x = refl
mapped-item f [] (suc i) x = grind (arith, common_steps)
mapped-item f (y ∷ ys) zero x = refl
mapped-item f (y ∷ ys) (suc i) x = grind (arith, common_steps, mapped-item f ys i x)

mapped-at : {X : Type 0} (f : X → X) (xs : List X) (i : ℕ) (x : X) → i < length xs → x ≡ get_or xs i x
    → set (map f (take i xs) ++ drop i xs) i (f x) ≡ map f (take (suc i) xs) ++ drop (suc i) xs
mapped-at f [] i x lt is = absurd (grind (arith, lt))
mapped-at f (y ∷ ys) zero x lt is = ap (λ z. f z ∷ ys) is
mapped-at f (y ∷ ys) (suc i) x lt is = ap (λ zs. f y ∷ zs) (mapped-at f ys i x (grind (arith, lt)) is)

pub mapped-more : {X : Type 0} (f : X → X) (xs : List X) (i : ℕ) (x : X) → i < length xs → x ≡ get_or xs i x
    → set (map f (take i xs) ++ drop i xs) i (f x) ≡ map f (take (i + 1) xs) ++ drop (i + 1) xs
mapped-more f xs i x lt is = rw add-one (mapped-at f xs i x lt is)

-- no item passes, so none is changed
pub unmapped : {X : Type 0} (test : X → Bool) (f : X → X) (xs : List X) → list_any test xs ≡ false
    → map (λ x. cond (test x) (f x) x) xs ≡ xs
unmapped test f [] none = refl
unmapped test f (x ∷ xs) none = grind (arith, common_steps, unmapped test f xs)

-- one step of a loop that maps a list in place and tells whether an item passed
module _ {X : Type 0} (test : X → Bool) (f : X → X) (old now : List X) (i : ℕ) (x : X) where
  item-is : now ≡ map f (take i old) ++ drop i old → get_or now i x ≡ get_or old i x
  item-is so_far = ap (λ (xs : List X). get_or xs i x) so_far ∙ mapped-item f old i x

  pub passed-more : (found known : Bool) → i < length old → now ≡ map f (take i old) ++ drop i old → found
      ≡ list_any test (take i old) → known ≡ test (get_or now i x) → (found || known) ≡ list_any test (take (i + 1) old)
  passed-more found known lt so_far any is = (λ k. any k || (is ∙ ap test (item-is so_far)) k)
      ∙ sym (list_any_more test old i x lt)

  pub changed-more : (y : X) → i < length old → now ≡ map f (take i old) ++ drop i old → y ≡ f (get_or now i x)
      → set now i y ≡ map f (take (i + 1) old) ++ drop (i + 1) old
  changed-more y lt so_far is =
      let same : y ≡ f (get_or old i x) = is ∙ ap f (item-is so_far) in
      (λ k. set (so_far k) i (same k))
      ∙ mapped-more f old i (get_or old i x) lt (get_or_default old i x (get_or old i x) lt)

-- a fold over what is left of a list, one item on
pub folded-from : {A X Y : Type 0} (step : A → Y → A) (made : X
    → Y) (xs : List X) (i : ℕ) (x y : X) (before after whole : A) → slice_get xs i ≡ Some x → y ≡ x → after
    ≡ step before (made y) → whole ≡ fold step before (map made (drop i xs)) → whole
    ≡ fold step after (map made (drop (i + 1) xs))
folded-from step made xs i x y before after whole at same is so_far =
    let within = slice_get_within xs i x at in
    let found : get_or xs i x ≡ y = get_or_from_slice_get xs i x x at ∙ sym same in
    so_far
    ∙ (at_drop_more (λ left. fold step before (map made left)) xs i x within
    ∙ ((λ k. fold step (step before (made (found k))) (map made (drop (i + 1) xs)))
    ∙ ap (λ entries. fold step entries (map made (drop (i + 1) xs))) (sym is)))

-- a list is empty where its length is 0
pub empty : {X : Type 0} (xs ys : List X) → ys ≡ xs → true ≡ (length ys == 0) → xs ≡ []
empty [] ys is none = refl
empty (x ∷ xs) ys is none = let some : true ≡ (length (x ∷ xs) == 0) =
    subst (λ (l : List _). true ≡ (length l == 0)) is none in absurd (grind (arith, some))

-- one item more is copied
pub copied-more : {X : Type 0} (xs : List X) (i : ℕ) (x y : X) (before after : List X) → slice_get xs i ≡ Some x → y
    ≡ x → after ≡ before ++ y ∷ [] → before ≡ take i xs → after ≡ take (i + 1) xs
copied-more xs i x y before after at same is so_far =
    let found : get_or xs i x ≡ y = get_or_from_slice_get xs i x x at ∙ sym same in
    is ∙ ((λ k. so_far k ++ (sym found) k ∷ []) ∙ sym (take_more xs i x (slice_get_within xs i x at)))
