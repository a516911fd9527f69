-- What loops over events, transcripts and entries come to.
use Rattle.std.proofs.Common.{◌≡◌, ℕ, ◌<◌, ◌+◌, List, [], ◌∷◌, ◌++◌, length, take, drop, get_or, add-one}
use Rattle.std.proofs.Common.{◌==◌, true, ap, arith, refl, sym, ◌∙◌}
use Rattle.std.specs.List.{flat_map}
use Rattle.std.proofs.Math.Seq.{take-suc}
use Rattle.std.proofs.lemmas.List.{append-nil, take-append-drop}
use Rattle.std.proofs.lemmas.List.Concat.{flat_map-append}

-- the text of one item more
pub flat_map-take : {X : Type 0} (f : X → List ℕ) (xs : List X) (i : ℕ) (x : X) → i < length xs → x ≡ get_or xs i x
    → flat_map f (take (i + 1) xs) ≡ flat_map f (take i xs) ++ f x
flat_map-take f xs i x h is =
    rw (
      add-one,
      take-suc xs i x h,
      flat_map-append f (take i xs) (get_or xs i x ∷ []),
      append-nil (f (get_or xs i x)),
    ) (ap (λ y. flat_map f (take i xs) ++ f y) (sym is))

-- the texts of the first items, and those of the rest
pub flat_map-split : {X : Type 0} (f : X → List ℕ) (xs : List X) (i : ℕ) → flat_map f xs ≡ flat_map f (take i xs)
    ++ flat_map f (drop i xs)
flat_map-split f xs i = ap (λ l. flat_map f l) (sym (take-append-drop i xs)) ∙ flat_map-append f (take i xs) (drop i xs)

-- the text of the items at the front, and those of the others
pub flat_map-cut : {X : Type 0} (f : X → List ℕ) (xs first others : List X) (text : List ℕ) → xs ≡ first ++ others
    → text ≡ flat_map f first → flat_map f xs ≡ text ++ flat_map f others
flat_map-cut f xs first others text cut is =
    ap (λ l. flat_map f l) cut ∙ flat_map-append f first others ∙ ap (λ l. l ++ flat_map f others) (sym is)

-- no items have no text
pub flat_map-none : {X : Type 0} (f : X → List ℕ) (xs : List X) → true ≡ (length xs == 0) → flat_map f xs ≡ []
flat_map-none f [] e = refl
flat_map-none f (x ∷ xs) e = absurd (grind (arith, e))
