-- The rule at the opening, and what it gives once all passes have come back.
use Rattle.std.proofs.Common.{◌≡◌, ◌≢◌, ℕ, zero, suc, ◌<◌, ◌≤◌, true, false, eqb, List, [], ◌∷◌, length, get_or, sym}
use Rattle.std.proofs.Common.{refl, ap, ◌∙◌, subst, ⊎_elim, arith, Some, eq-eqb, ne_eqb}
use Rattle.std.proofs.lemmas.Bool.{cases_Bool}
use Rattle.std.specs.declared.option.Option.{Option}
use mathlib.Core.Logic.{dite}
use mathlib.Core.Option.{some, some-injective, some-ne-none}
use native.Mathlib.Decide.{ℕ_discrete}
use lib.ListN.{get_elem?}
use Rattle.atomic_table.specs.Table.{opening, Final, Seen}
use Rattle.book_calls.specs.declared.book.Book.{Book}
use Rattle.book_calls.specs.declared.entry.Entry.{Entry}
use Rattle.book_calls.specs.Entries.{book_after, Legal, entries_of, AllTurnsBelow, StartsWith}
use Rattle.book_calls.proofs.EntryLemmas.{AllTurnsBelow-mono}
use Rattle.book_turns.specs.Private.Sums.{total, one, often}
use Rattle.book_turns.specs.Private.Rule.{desk, first_view, drawn, passes_of, HasDocument, Fits, Keeps}
use Rattle.book_turns.specs.declared.desk.Desk.{Desk}
use Rattle.book_turns.specs.declared.view.View.{View}
use Rattle.book_turns.specs.declared.view.Ended.{Ended}
use Rattle.book_turns.proofs.Keeping.{no}

lone_at : (v u : View) (i : ℕ) → get_elem? (v ∷ []) i ≡ some u → (i ≡ 0) × (v ≡ u)
lone_at v u zero e = (refl, some-injective v u e)
lone_at v u (suc i) e = absurd (some-ne-none u (sym e))

pub opens : (b : Book) → Keeps (opening (0 ∷ 0 ∷ []) (Some (desk b []) ∷ []) (first_view b))
opens b =
    let v : View = first_view b in
    let fit : Fits 0 0 b [] (4294967295 ∷ []) v = record {
      live = λ _. record { opening_is = refl; own = refl; seen = ([], refl); known = omega arith; made = λ _. refl };
      few = omega arith;
      few_ended = omega arith;
      ended = λ k e at. absurd (some-ne-none e (sym at));
      waits = λ z. no false z refl;
      served = λ z. no false z refl;
      noted = λ z. no false z refl;
      leads = λ _. refl;
    } in
    record {
      opening = b;
      history = [];
      docs = 4294967295 ∷ [];
      two = refl;
      legal = tt;
      turns = tt;
      named = tt;
      queue = refl;
      sum = refl;
      count = refl;
      once = λ d. dite (ℕ_discrete 4294967295 d) (λ e. let y : one (eqb 4294967295 d) ≡ 1 =
          ap one (eq-eqb 4294967295 d e) in omega arith) (λ ne. let y : one (eqb 4294967295 d) ≡ 0 =
          ap one (ne_eqb 4294967295 d ne) in omega arith);
      small = λ d big. let y : one (eqb 4294967295 d) ≡ 0 = ap one (ne_eqb 4294967295 d (λ e. omega arith)) in
          omega arith;
      fits = λ i u e. subst (Fits 0 0 b [] (4294967295 ∷ [])) (lone_at v u i e).1 fit;
      apart = λ i j u w ne e d. absurd (ne ((lone_at v u i e).0 ∙ sym (lone_at v w j d).0));
      home = λ _. refl;
    }

all-zero : (g : View → ℕ) (l : List View) → ((j : ℕ) (u : View) → get_elem? l j ≡ some u → g u ≡ 0) → total g l ≡ 0
all-zero g [] h = refl
all-zero g (x ∷ xs) h = let here : g x ≡ 0 = h zero x refl in let there = all-zero g xs (λ j u e. h (suc j) u e) in
    omega arith

-- a sum of which one term alone isn't 0
total-only : (g : View → ℕ) (l : List View) (id : ℕ) (v : View) → get_elem? l id ≡ some v
    → ((j : ℕ) (u : View) → j ≢ id → get_elem? l j ≡ some u → g u ≡ 0) → total g l ≡ g v
total-only g [] id v e others = absurd (some-ne-none v (sym e))
total-only g (x ∷ xs) zero v e others = let rest : total g xs ≡ 0 =
    all-zero g xs (λ j u at. others (suc j) u (λ z. omega arith) at) in omega (arith, ap g (some-injective x v e))
total-only g (x ∷ xs) (suc id) v e others = let here : g x ≡ 0 = others zero x (λ z. omega arith) refl in let there =
    total-only g xs id v e (λ j u ne at. others (suc j) u (λ z. ne (omega arith)) at) in omega arith

-- the table at its end, the first pass having taken in all others
pub record Closes (v : View) (xs : List (Option Desk)) : Type 0 where
  pub history : List Entry
  pub desk_is : get_elem? xs 0 ≡ some (Some (desk (book_after v.opening history) history))
  pub legal : Legal v.opening history
  pub own : entries_of v.document history ≡ v.own
  pub seen : StartsWith history v.seen
  pub turns : AllTurnsBelow (drawn v) history
  pub named : HasDocument history (4294967295 ∷ v.made)
  pub once : (d : ℕ) → often d (4294967295 ∷ v.made) ≤ 1
  pub count : passes_of v ≡ length (4294967295 ∷ v.made)
  pub ended : (k : ℕ) (e : Ended) → get_elem? v.ended k ≡ some e → (entries_of e.document history ≡ e.own)
      × StartsWith history e.seen × (v.document ≢ e.document) × (0 < often e.document (4294967295 ∷ v.made))

pub closes : (id : ℕ) (v : View) (ws : List ℕ) (xs : List (Option Desk)) → Final (Seen Keeps id v) ws xs → v.live
    ≡ true → v.document ≡ 4294967295 → v.served ≡ false
    → ((d : ℕ) → d ≢ 4294967295 → 0 < often d v.made → (k : ℕ) × (e : Ended) × (get_elem? v.ended k ≡ some e)
    × (e.document ≡ d)) → Closes v xs
closes id v ws xs final live first unserved whole =
    let s = final.0 in let o = final.1.0 in let me = final.1.1 in
    let t : ℕ = get_or s.words 0 0 in let n : ℕ = get_or s.words 1 0 in let f = o.fits id v me in let l = f.live live in
    let was : o.docs ≡ 4294967295 ∷ v.made = l.made first in
    let dead : (j : ℕ) (u : View) → j ≢ id → get_elem? s.views j ≡ some u → u.live ≡ false =
    λ j u ne e. ⊎_elim (λ (z : u.live ≡ true).
    let k = ((o.fits j u e).live z).known in let a = o.apart j id u v ne e me in
    let not-first : u.document ≢ 4294967295 = λ h. a.documents z live (h ∙ sym first) in
    let zero-first : one (eqb 4294967295 u.document) ≡ 0 =
    ap one (ne_eqb 4294967295 u.document (λ h. not-first (sym h))) in
    let some-made : 0 < often u.document v.made = let q = ap (often u.document) was in omega arith in
    let r = whole u.document not-first some-made in
    absurd (a.ended z r.0 r.1 r.2 (sym r.3))) (λ (z : u.live ≡ false). z) (cases_Bool u.live) in
    let none-served : (j : ℕ) (u : View) → get_elem? s.views j ≡ some u → u.served ≡ false =
    λ j u e. dite (ℕ_discrete j id)
    (λ (is-me : j ≡ id). let same : u ≡ v = some-injective u v (sym e ∙ (ap (get_elem? s.views) is-me ∙ me)) in
    ap (λ (y : View). y.served) same ∙ unserved)
    (λ (other : j ≢ id). ⊎_elim (λ (z : u.served ≡ true). no u.live ((o.fits j u e).served z).live_is
    (dead j u other e)) (λ (z : u.served ≡ false). z) (cases_Bool u.served)) in
    let home = o.home none-served in
    let alone : total drawn s.views ≡ drawn v =
    total-only drawn s.views id v me (λ j u ne e. let g = o.fits j u e in let z : one u.live ≡ 0 =
    ap one (dead j u ne e) in
    let none-kept : u.ended ≡ [] = g.leads (λ h. no u.live h (dead j u ne e)) in
    let zero-draws : total (λ e. e.draws) u.ended ≡ 0 = ap (λ (x : List Ended). total (λ e. e.draws) x) none-kept
    in omega (arith, g.few)) in
    let lone : total passes_of s.views ≡ passes_of v =
    total-only passes_of s.views id v me (λ j u ne e. let g = o.fits j u e in let z : one u.live ≡ 0 =
    ap one (dead j u ne e) in
    let none-kept : u.ended ≡ [] = g.leads (λ h. no u.live h (dead j u ne e)) in let zero-kept : length u.ended ≡ 0 =
    ap (λ (x : List Ended). length x) none-kept in omega arith) in
    record {
      history = o.history;
      desk_is = final.4 0 (Some (desk (book_after v.opening o.history) o.history)) (home
          ∙ ap (λ (b : Book). some (some (Some (desk (book_after b o.history) o.history)))) (sym l.opening_is));
      legal = subst (λ (b : Book). Legal b o.history) (sym l.opening_is) o.legal;
      own = l.own;
      seen = l.seen;
      turns = AllTurnsBelow-mono n (drawn v) o.history (omega (arith, o.queue, o.sum)) o.turns;
      named = subst (HasDocument o.history) was o.named;
      once = subst (λ (l : List ℕ). (d : ℕ) → often d l ≤ 1) was o.once;
      count = sym lone ∙ (o.count ∙ ap (λ (l : List ℕ). length l) was);
      ended = λ k e at. let q = f.ended k e at in
          (q.own, q.seen, q.apart, subst (λ (l : List ℕ). 0 < often e.document l) was q.known);
    }
