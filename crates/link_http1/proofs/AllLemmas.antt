-- A test of all elements, from one of them on.
use Rattle.std.proofs.Common.{◌≡◌, ◌+◌, ℕ, List, refl, ◌∙◌, Bool, true, false}
use Rattle.std.proofs.Common.{drop, Some}
use Rattle.std.specs.List.{list_all, slice_get}
use Rattle.value_lemmas.proofs.Lists.{list_all-drop}

pub all-stops : {X : Type 0} (test : X → Bool) (xs : List X) (i : ℕ) (x : X) → slice_get xs i ≡ Some x → test x
    ≡ false → list_all test (drop i xs) ≡ false
all-stops test xs i x found fails = list_all-drop test xs i x found ∙ rw fails refl

pub all-goes : {X : Type 0} (test : X → Bool) (xs : List X) (i : ℕ) (x : X) → slice_get xs i ≡ Some x → test x ≡ true
    → list_all test (drop i xs) ≡ list_all test (drop (i + 1) xs)
all-goes test xs i x found passes = list_all-drop test xs i x found ∙ rw passes refl
