-- Lists and tests that the proofs on fetches share.
use Rattle.std.proofs.Common.{◌≡◌, ℕ, zero, suc, ◌<◌, Bool, true, false, not, ◌&&◌, cond, List, [], ◌∷◌, ◌++◌}
use Rattle.std.proofs.Common.{length, All, Contains, find, Option, Some, None, is_some, refl, ap, sym, subst}
use Rattle.std.proofs.Common.{◌∙◌, arith}
use Rattle.std.proofs.Common.{true≢false, slice_index_or}
use Rattle.std.specs.List.{AllByRecursion, list_all}

-- each item by its index, one after the other
pub all-each : {X : Type 0} (P : X → Type 0) (xs : List X) → All P xs → AllByRecursion P xs
all-each P [] all = tt
all-each P (x ∷ xs) all = (
  all 0 x (omega arith),
  all-each P xs (λ k d lt. all (suc k) d (omega (arith, lt))),
)

-- one item more
pub each-more : {X : Type 0} (P : X → Type 0) (xs : List X) (x : X) → AllByRecursion P xs → P x
    → AllByRecursion P (xs ++ x ∷ [])
each-more P [] x all here = (here, tt)
each-more P (y ∷ ys) x all here = (all.0, each-more P ys x all.1 here)

-- an item of the list is as all are
pub each-contained : {X : Type 0} (P : X → Type 0) (xs : List X) → AllByRecursion P xs → (x : X) → Contains xs x → P x
each-contained P [] all x at = absurd (omega (arith, at.1))
each-contained P (y ∷ ys) all x at = by-place (each-contained P ys all.1 x) at.0 at.1 at.2
  where
    by-place : (Contains ys x → P x) → (k : ℕ) → k < suc (length ys) → slice_index_or (y ∷ ys) k x ≡ x → P x
    by-place rest zero lt same = subst P same all.0
    by-place rest (suc k) lt same = rest (k, omega (arith, lt), same)

-- the item that is found passes the test, and is as all are
pub found-is : {X : Type 0} (P : X → Type 0) (test : X → Bool) (xs : List X) (x : X) → AllByRecursion P xs
    → find test xs ≡ Some x → (test x ≡ true) × P x
found-is P test [] x all same = absurd (true≢false (sym (ap is_some same)))
found-is {X = X} P test (y ∷ ys) x all same = by-test (found-is P test ys x all.1) (test y) refl same
  where
    by-test : (find test ys ≡ Some x → (test x ≡ true) × P x) → (b : Bool) → test y ≡ b
        → cond b (Some y) (find test ys) ≡ Some x → (test x ≡ true) × P x
    by-test rest true is here =
        let one : y ≡ x = cc here in
        (subst (λ (z : X). test z ≡ true) one is, subst P one all.0)
    by-test rest false is later = rest later

-- two tests that agree on the items find the same
pub find-alike : {X : Type 0} (a b : X → Bool) (xs : List X) → AllByRecursion (λ x. a x ≡ b x) xs
    → find a xs ≡ find b xs
find-alike a b [] alike = refl
find-alike a b (x ∷ xs) alike =
    ap (λ (t : Bool). cond t (Some x) (find a xs)) alike.0
    ∙ ap (λ (o : Option _). cond (b x) (Some x) o) (find-alike a b xs alike.1)

-- no item passes the opposite of a test, so all pass it
pub none-not : {X : Type 0} (test : X → Bool) (xs : List X) → find (λ x. not (test x)) xs ≡ None
    → list_all test xs ≡ true
none-not test [] none = refl
none-not test (x ∷ xs) none = by-test (none-not test xs) (test x) none
  where
    by-test : (find (λ y. not (test y)) xs ≡ None → list_all test xs ≡ true) → (b : Bool)
        → cond (not b) (Some x) (find (λ y. not (test y)) xs) ≡ None → (b && list_all test xs) ≡ true
    by-test rest true later = rest later
    by-test rest false here = absurd (true≢false (ap is_some here))

-- one passes it, so not all pass the test
pub some-not : {X : Type 0} (test : X → Bool) (xs : List X) (x : X) → find (λ y. not (test y)) xs ≡ Some x
    → list_all test xs ≡ false
some-not test [] x same = absurd (true≢false (sym (ap is_some same)))
some-not test (y ∷ ys) x same = by-test (some-not test ys x) (test y) same
  where
    by-test : (find (λ z. not (test z)) ys ≡ Some x → list_all test ys ≡ false) → (b : Bool)
        → cond (not b) (Some y) (find (λ z. not (test z)) ys) ≡ Some x → (b && list_all test ys) ≡ false
    by-test rest true later = rest later
    by-test rest false here = refl

pub and-true : (b : Bool) → (b && true) ≡ b
and-true true = refl
and-true false = refl
