-- Lists of what is made of other lists, and what is known of an answer.
use Rattle.std.proofs.Common.{List, [], ◌∷◌, Result, Ok, Err, map}
use Rattle.std.specs.Prelude.{IfOk}
use Rattle.std.specs.List.{All}
use Rattle.std.proofs.lemmas.List.Elements.{All-nil, All-cons, All-head, All-tail}

pub unmap : {X Y : Type 0} (P : X → Type 0) (f : Y → X) (ys : List Y) → All P (map f ys) → All (λ y. P (f y)) ys
unmap P f [] a = All-nil (λ y. P (f y))
unmap P f (y ∷ ys) a = All-cons (λ y. P (f y)) y ys (All-head P (f y) (map f ys) a)
    (unmap P f ys (All-tail P (f y) (map f ys) a))

-- what follows of each answer
pub if-ok-map : {T E : Type 0} (P Q : T → Type 0) (result : Result T E) → ((x : T) → P x → Q x) → IfOk result P
    → IfOk result Q
if-ok-map P Q (Ok x) f p = f x p
if-ok-map P Q (Err e) f p = tt
