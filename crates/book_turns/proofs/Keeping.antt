-- What every step needs: a rule's state after one view has changed.
use Rattle.std.proofs.Common.{◌≡◌, ◌≢◌, ℕ, zero, suc, ◌+◌, ◌*◌, ◌<◌, ◌≤◌, Bool, true, false, List, [], ◌∷◌, length}
use Rattle.std.proofs.Common.{get_or, set, sym, refl, ◌∙◌, subst, ⊎_elim, arith, Some}
use Rattle.std.specs.declared.option.Option.{Option}
use mathlib.Core.Option.{some, some-injective, some-ne-none}
use lib.ListN.{get_elem?}
use lib.Seq.{set-get_or}
use Rattle.atomic_table.specs.Table.{State}
use Rattle.atomic_table.proofs.Lists.{at_set, set_again}
use Rattle.book_calls.specs.declared.entry.Entry.{Entry}
use Rattle.book_calls.specs.Entries.{book_after, Legal, AllTurnsBelow}
use Rattle.book_turns.specs.Private.Sums.{total, one}
use Rattle.book_turns.specs.Private.Rule.{desk, drawn, passes_of, waiting, HasDocument, Fits, Apart, Keeps}
use Rattle.book_turns.specs.declared.desk.Desk.{Desk}
use Rattle.book_turns.specs.declared.view.View.{View}
use Rattle.book_turns.proofs.Sums.{total-set, total-le, pigeons}

abbrev pub St : Type 0
St = State (Option Desk) View

abbrev pub Homes : Type 0
Homes = List (mathlib.Core.Option.Option (Option Desk))

abbrev pub board : List ℕ → Homes → List View → St
board ws hs vs = record { words = ws; homes = hs; views = vs }

pub no : {A : Type 0} (b : Bool) → b ≡ true → b ≡ false → A
no b p q = absurd (let e : true ≡ false = sym p ∙ q in cc)

pub set_at : (l : List View) (i : ℕ) (v w : View) → get_elem? l i ≡ some v → get_elem? (set l i w) i ≡ some w
set_at [] i v w e = absurd (some-ne-none v (sym e))
set_at (x ∷ xs) zero v w e = refl
set_at (x ∷ xs) (suc i) v w e = set_at xs i v w e

-- the view of one seat changes from v to w, and the history becomes h
pub moved : (s : St) (o : Keeps s) (id : ℕ) (v w : View) (ws : List ℕ) (hs : Homes) (h : List Entry) (t n : ℕ)
    → get_elem? s.views id ≡ some v
    → length ws ≡ 2 → get_or ws 0 0 ≡ t → get_or ws 1 0 ≡ n → Legal o.opening h → AllTurnsBelow n h
    → HasDocument h o.docs
    → n + waiting w + get_or s.words 0 0 ≡ get_or s.words 1 0 + waiting v + t
    → drawn w + get_or s.words 0 0 ≡ drawn v + t → passes_of w ≡ passes_of v
    → Fits t n o.opening h o.docs w
    → ((j : ℕ) (u : View) → j ≢ id → get_elem? s.views j ≡ some u → Apart v u → Apart u v
    → Fits (get_or s.words 0 0) (get_or s.words 1 0) o.opening o.history o.docs u → Fits t n o.opening h o.docs u)
    → ((j : ℕ) (u : View) → j ≢ id → get_elem? s.views j ≡ some u → Apart v u → Apart u v
    → Fits (get_or s.words 0 0) (get_or s.words 1 0) o.opening o.history o.docs u → Apart w u × Apart u w)
    → (((i : ℕ) (u : View) → get_elem? (set s.views id w) i ≡ some u → u.served ≡ false) → get_elem? hs 0
    ≡ some (some (Some (desk (book_after o.opening h) h))))
    → Keeps (board ws hs (set s.views id w))
moved s o id v w ws hs h t n me two is-t is-n legal turns named queue sum count mine others apart home =
    let a = total-set waiting s.views id v w me in let b = total-set drawn s.views id v w me in let c =
    total-set passes_of s.views id v w me in
    let near : (j : ℕ) (u : View) → j ≢ id → get_elem? s.views j ≡ some u → Apart w u × Apart u w =
    λ j u ne e. apart j u ne e (o.apart id j v u (λ h. ne (sym h)) me e) (o.apart j id u v ne e me) (o.fits j u e)
    in
    let fit : (u : View) → Fits t n o.opening h o.docs u → Fits (get_or ws 0 0) (get_or ws 1 0) o.opening h o.docs u =
    λ u f.
    subst (λ (k : ℕ). Fits k (get_or ws 1 0) o.opening h o.docs u) (sym is-t)
    (subst (λ (k : ℕ). Fits t k o.opening h o.docs u) (sym is-n) f) in
    record {
      opening = o.opening;
      history = h;
      docs = o.docs;
      two = two;
      legal = legal;
      turns = subst (λ (k : ℕ). AllTurnsBelow k h) (sym is-n) turns;
      named = named;
      queue = omega (arith, o.queue);
      sum = omega (arith, o.sum);
      count = omega (arith, o.count);
      once = o.once;
      small = o.small;
      fits = λ j u e. fit u (⊎_elim (λ (r : (j ≡ id) × (w ≡ u)). subst (Fits t n o.opening h o.docs) r.1 mine)
          (λ (r : (j ≢ id) × (get_elem? s.views j ≡ some u)). others j u r.0 r.1
          (o.apart id j v u (λ h. r.0 (sym h)) me r.1) (o.apart j id u v r.0 r.1 me) (o.fits j u r.1))
          (at_set s.views id j w u e));
      apart = λ i j x y ne e d.
          ⊎_elim
          (λ (p : (i ≡ id) × (w ≡ x)). ⊎_elim (λ (r : (j ≡ id) × (w ≡ y)). absurd (ne (p.0 ∙ sym r.0)))
          (λ (r : (j ≢ id) × (get_elem? s.views j ≡ some y)). subst (λ (z : View). Apart z y) p.1
          (near j y r.0 r.1).0) (at_set s.views id j w y d))
          (λ (p : (i ≢ id) × (get_elem? s.views i ≡ some x)). ⊎_elim
          (λ (r : (j ≡ id) × (w ≡ y)). subst (λ (z : View). Apart x z) r.1 (near i x p.0 p.1).1)
          (λ (r : (j ≢ id) × (get_elem? s.views j ≡ some y)). o.apart i j x y ne p.1 r.1) (at_set s.views id j w y d))
          (at_set s.views id i w x e);
      home = home;
    }

-- a load that changes nothing
pub unmoved : (s : St) (o : Keeps s) (i id : ℕ) (v : View) → get_elem? s.views id ≡ some v
    → Keeps (board (set s.words i (get_or s.words i 0)) s.homes (set s.views id v))
unmoved s o i id v me = subst (λ (ws : List ℕ). Keeps (board ws s.homes (set s.views id v)))
    (sym (set-get_or s.words i 0))
    (subst (λ (vs : List View). Keeps (board s.words s.homes vs)) (sym (set_again s.views id v me)) o)

few-drawn : (v : View) → v.draws ≤ 4294967295 * one v.live
    → total (λ e. e.draws) v.ended ≤ 4294967295 * length v.ended → drawn v ≤ 4294967295 * passes_of v
few-drawn v a b = omega arith

-- tickets are never used up
pub roomy : (s : St) (o : Keeps s) (id : ℕ) (v w : View) → get_elem? s.views id ≡ some v → passes_of w ≡ passes_of v
    → drawn w ≤ 4294967295 * passes_of w
    → get_or s.words 0 0 + drawn w < 18446744073709551615 + drawn v
roomy s o id v w me same few =
    let a = total-set drawn s.views id v w me in let b = total-set passes_of s.views id v w me in
    let most : length o.docs ≤ 4294967296 = pigeons 4294967296 o.docs o.once o.small in
    let bound = total-le drawn passes_of 4294967295 (set s.views id w)
    (λ j u e. ⊎_elim (λ (r : (j ≡ id) × (w ≡ u)). subst (λ (z : View). drawn z ≤ 4294967295 * passes_of z) r.1 few)
    (λ (r : (j ≢ id) × (get_elem? s.views j ≡ some u)). let f = o.fits j u r.1 in
    few-drawn u f.few f.few_ended) (at_set s.views id j w u e)) in
    omega (arith, o.sum, o.count)
