-- The passes that come back, and the ended ones that the first view then keeps.
use Rattle.std.proofs.Common.{◌≡◌, ◌≢◌, ℕ, zero, suc, ◌+◌, ◌<◌, ◌≤◌, cond, eqb, List, [], ◌∷◌, ◌++◌, length, sym}
use Rattle.std.proofs.Common.{refl, ap, ◌∙◌, subst, arith, ne_eqb, Some}
use Rattle.std.specs.declared.option.Option.{Option}
use Rattle.atomic_table.specs.Seated.{TableId}
use Rattle.std.specs.List.{All, count_by, sum_by}
use Rattle.std.specs.List.Sorted.{IsPermutation}
use Rattle.std.proofs.lemmas.List.Sorted.{All-permutation, IsPermutation-sym, sum_by-IsPermutation}
use Rattle.std.proofs.lemmas.List.Sums.{sum_by-cons}
use Rattle.std.proofs.lemmas.List.Elements.{All-nil, All-cons, All-head, All-tail}
use mathlib.Core.Logic.{dite}
use native.Mathlib.Decide.{ℕ_discrete}
use mathlib.Core.Option.{some, some-injective}
use lib.ListN.{get_elem?}
use Rattle.value_lemmas.proofs.Tests.{eqb-comm}
use Rattle.book_calls.specs.declared.book.Book.{Book}
use Rattle.book_calls.specs.declared.entry.Entry.{Entry}
use Rattle.book_calls.specs.Entries.{book_after, Legal, entries_of, AllTurnsBelow, StartsWith}
use Rattle.book_turns.specs.Counts.{times}
use Rattle.book_turns.specs.Private.Sums.{total, one, often}
use Rattle.book_turns.specs.Private.Rule.{HasDocument, desk, drawn}
use Rattle.book_turns.specs.Private.Steps.{ending, joined}
use Rattle.book_turns.specs.Passes.{is_of, calls_of, HasEveryPass, IsOneHistory}
use Rattle.book_turns.specs.Private.Taken.{endings, taken_in}
use Rattle.book_turns.specs.declared.pass.TurnPass.{TurnPass}
use Rattle.book_turns.specs.declared.desk.Desk.{Desk}
use Rattle.book_turns.specs.declared.view.View.{View}
use Rattle.book_turns.specs.declared.view.Ended.{Ended}
use Rattle.book_turns.proofs.Ends.{Closes}
use Rattle.book_turns.proofs.Sums.{at-most, sum-total, often-here, times-often, total-plus, total-same}
use Rattle.book_turns.proofs.Sums.{total-zero}
use Rattle.book_turns.proofs.Turns.{some_desk}

endings-snoc : (ps : List TurnPass) (p : TurnPass) (more : List Ended) → endings ps ++ (ending p.seat.me.0 ∷ more)
    ≡ endings (ps ++ p ∷ []) ++ more
endings-snoc [] p more = refl
endings-snoc (q ∷ qs) p more = ap (λ (l : List Ended). ending q.seat.me.0 ∷ l) (endings-snoc qs p more)

-- a pass that is taken in by a join is one fewer to take in
pub takes_in : (v : View) (ps qs : List TurnPass) (p : TurnPass) → qs ≡ ps ++ p ∷ []
    → taken_in (joined v p.seat.me.0) ps ≡ taken_in v qs
takes_in v ps qs p e = ap (λ (l : List Ended). record v { ended = l }) (endings-snoc ps p v.ended
    ∙ ap (λ (l : List TurnPass). endings l ++ v.ended) (sym e))

none-ended : (l : List Ended) → length l ≡ 0 → l ≡ []
none-ended [] e = refl
none-ended (x ∷ xs) e = absurd (omega arith)

-- a pass of a document among those that were taken in
find : (ps : List TurnPass) (more : List Ended) (d : ℕ) → 0 < count_by (is_of d) ps → (k : ℕ) × (e : Ended)
    × (get_elem? (endings ps ++ more) k ≡ some e) × (e.document ≡ d)
find [] more d h = absurd (omega arith)
find (p ∷ ps) more d h =
    dite (ℕ_discrete p.document d) (λ (is : p.document ≡ d). (0, ending p.seat.me.0, refl, p.rests.1 ∙ is))
    (λ (ne : p.document ≢ d).
    let z : one (eqb p.document d) ≡ 0 = ap one (ne_eqb p.document d ne) in
    let later : 0 < count_by (is_of d) ps = omega (arith, sum_by-cons (λ (q : TurnPass). cond (is_of d q) 1 0) p ps) in
    let r = find ps more d later in (suc r.0, r.1, r.2, r.3))

-- what holds of each that was taken in, by its place
each : (P : Ended → Type 0) (Q : TurnPass → Type 0) (ps : List TurnPass) (more : List Ended)
    → ((p : TurnPass) → P (ending p.seat.me.0) → Q p)
    → ((k : ℕ) (e : Ended) → get_elem? (endings ps ++ more) k ≡ some e → P e) → All Q ps
each P Q [] more step h = All-nil Q
each P Q (p ∷ ps) more step h =
    All-cons Q p ps (step p (h zero (ending p.seat.me.0) refl)) (each P Q ps more step (λ k e at. h (suc k) e at))

sum-of : (ps : List TurnPass) → total (λ e. e.draws) (endings ps ++ []) ≡ sum_by calls_of ps
sum-of [] = refl
sum-of (p ∷ ps) = omega (arith, sum_by-cons calls_of p ps, sum-of ps)

endings-long : (ps : List TurnPass) (more : List Ended) → length (endings ps ++ more) ≡ length ps + length more
endings-long [] more = omega arith
endings-long (p ∷ ps) more = omega (arith, endings-long ps more)

-- how many passes are of a document
abbrev met : List TurnPass → ℕ → ℕ
met ps d = total (λ p. one (is_of d p)) ps

-- documents that are all different meet each pass at most once
met-once : (docs : List ℕ) (ps : List TurnPass) → ((d : ℕ) → often d docs ≤ 1) → total (met ps) docs ≤ length ps
met-once docs [] once = let z : total (met []) docs ≡ 0 = total-zero docs in omega arith
met-once docs (p ∷ ps) once =
    let split : total (met (p ∷ ps)) docs ≡ total (λ (d : ℕ). one (is_of d p)) docs + total (met ps) docs =
    total-plus (λ (d : ℕ). one (is_of d p)) (met ps) docs in
    let same : total (λ (d : ℕ). one (is_of d p)) docs ≡ often p.document docs =
    total-same (λ (d : ℕ). one (is_of d p)) (λ (d : ℕ). one (eqb d p.document)) docs
    (λ d. ap one (eqb-comm p.document d)) in
    omega (arith, once p.document, met-once docs ps once)

met-none : (docs : List ℕ) (ps : List TurnPass) (d : ℕ) → often d docs ≡ 0 → All (λ p. 0 < often p.document docs) ps
    → met ps d ≡ 0
met-none docs [] d none-there known = refl
met-none docs (p ∷ ps) d none-there known =
    let P : TurnPass → Type 0 = λ q. 0 < often q.document docs in
    let here : 0 < often p.document docs = All-head P p ps known in
    let z : one (is_of d p) ≡ 0 =
    ap one (ne_eqb p.document d (λ e. let q : often p.document docs ≡ often d docs =
    ap (λ (k : ℕ). often k docs) e in absurd (omega arith))) in
    omega (arith, met-none docs ps d none-there (All-tail P p ps known))

-- as many passes as documents, which are all different and each have one: no document has two
met-apart : (docs : List ℕ) (ps : List TurnPass) → ((d : ℕ) → often d docs ≤ 1)
    → All (λ p. 0 < often p.document docs) ps → ((d : ℕ) → 0 < often d docs → 1 ≤ met ps d) → length ps ≡ length docs
    → (d : ℕ) → met ps d ≤ 1
met-apart docs ps once known some-there long d = dite (ℕ_discrete (often d docs) 0)
    (λ (z : often d docs ≡ 0). let n = met-none docs ps d z known in omega arith)
    (λ (ne : often d docs ≢ 0). omega (arith, at-most (met ps) docs some-there d (omega arith), met-once docs ps once))

turns-all : (n : ℕ) (h : List Entry) → AllTurnsBelow n h → All (λ e. e.turn < n) h
turns-all n [] a = All-nil (λ (e : Entry). e.turn < n)
turns-all n (e ∷ es) a = All-cons (λ (e : Entry). e.turn < n) e es a.0 (turns-all n es a.1)

named-all : (passes : List TurnPass) (docs : List ℕ) (h : List Entry)
    → ((d : ℕ) → 0 < often d docs → 0 < count_by (is_of d) passes) → HasDocument h docs
    → All (λ e. 0 < count_by (is_of e.document) passes) h
named-all passes docs [] up a = All-nil (λ (e : Entry). 0 < count_by (is_of e.document) passes)
named-all passes docs (e ∷ es) up a =
    All-cons (λ (e : Entry). 0 < count_by (is_of e.document) passes) e es (up e.document a.0)
    (named-all passes docs es up a.1)

module _ (passes rest : List TurnPass) (first : TurnPass) (same : IsPermutation passes (first ∷ rest))
    (is-first : first.document ≡ 4294967295) (t : TableId) (all : HasEveryPass t passes) (v : View) (taken : v
    ≡ taken_in first.seat.me.0 rest) where
  WholeOf : TurnPass → Type 0
  WholeOf p = p.document ≡ 4294967295 → (d : ℕ) → 0 < times d p.seat.me.0.made → 0 < count_by (is_of d) passes

  made-here : (d : ℕ) → 0 < often d v.made → 0 < count_by (is_of d) passes
  unfolding WholeOf
  made-here d h = All-head WholeOf first rest (All-permutation WholeOf passes (first ∷ rest) same all.whole) is-first
      d (subst (λ (l : List ℕ). 0 < times d l) (ap (λ (x : View). x.made) taken)
      (omega (arith, h, times-often d v.made)))

  pub whole-here : (d : ℕ) → d ≢ 4294967295 → 0 < often d v.made → (k : ℕ) × (e : Ended)
      × (get_elem? v.ended k ≡ some e) × (e.document ≡ d)
  whole-here d ne h =
      let counted = made-here d h in let moved =
      sum_by-IsPermutation (λ (q : TurnPass). cond (is_of d q) 1 0) passes (first ∷ rest) same in
      let z : one (eqb first.document d) ≡ 0 = ap one (ne_eqb first.document d (λ e. ne (sym e ∙ is-first))) in
      let later : 0 < count_by (is_of d) rest =
      omega (arith, sum_by-cons (λ (q : TurnPass). cond (is_of d q) 1 0) first rest) in
      let r = find rest first.seat.me.0.ended d later in let kept : v.ended ≡ endings rest ++ first.seat.me.0.ended =
      ap (λ (x : View). x.ended) taken in
      (r.0, r.1, ap (λ (l : List Ended). get_elem? l r.0) kept ∙ r.2, r.3)

  pub one_history : (xs : List (Option Desk)) (cl : Closes v xs) (book : Book) (history : List Entry) → get_elem? xs 0
      ≡ some (Some (desk book history)) → IsOneHistory passes book history
  one_history xs cl book history there =
      let d : Desk = desk book history in let e : Desk = desk (book_after v.opening cl.history) cl.history in
      let is-desk : d ≡ e = some_desk d e (some-injective (Some d) (Some e) (sym there ∙ cl.desk_is)) in
      let h : history ≡ cl.history = ap (λ (x : Desk). x.history) is-desk in let b : book
      ≡ book_after v.opening cl.history = ap (λ (x : Desk). x.book) is-desk in
      let opening : v.opening ≡ first.seat.me.0.opening = ap (λ (x : View). x.opening) taken in
      let kept : v.ended ≡ endings rest ++ first.seat.me.0.ended = ap (λ (x : View). x.ended) taken in
      let empty : first.seat.me.0.ended ≡ [] = none-ended first.seat.me.0.ended first.rests.6 in
      let document : v.document ≡ first.document = ap (λ (x : View). x.document) taken ∙ first.rests.1 in
      let back : (Q : TurnPass → Type 0) → Q first → All Q rest → All Q passes =
      λ Q q qs. All-permutation Q (first ∷ rest) passes (IsPermutation-sym passes (first ∷ rest) same)
      (All-cons Q first rest q qs) in
      let P : Ended → Type 0 = λ e. (entries_of e.document cl.history ≡ e.own) × StartsWith cl.history e.seen
      × (v.document ≢ e.document) × (0 < often e.document (4294967295 ∷ v.made)) in
      let those : (k : ℕ) (e : Ended) → get_elem? (endings rest ++ first.seat.me.0.ended) k ≡ some e → P e =
      λ k e at. cl.ended k e (ap (λ (l : List Ended). get_elem? l k) kept ∙ at) in
      let Legals : TurnPass → Type 0 = λ p. p.document ≡ 4294967295 → Legal p.seat.me.0.opening history
      × (book ≡ book_after p.seat.me.0.opening history) in
      let Owns : TurnPass → Type 0 = λ p. entries_of p.document history ≡ p.seat.me.0.own in
      let Sees : TurnPass → Type 0 = λ p. StartsWith history p.seat.me.0.seen in
      let drawn-is : drawn v ≡ sum_by calls_of passes =
      let a : v.draws ≡ first.seat.me.0.draws = ap (λ (x : View). x.draws) taken in
      let c : total (λ e. e.draws) v.ended ≡ total (λ e. e.draws) (endings rest ++ []) =
      ap (λ (l : List Ended). total (λ e. e.draws) l) (kept ∙ ap (λ (l : List Ended). endings rest ++ l) empty) in
      omega (
        arith,
        sum-of rest,
        sum_by-cons calls_of first rest,
        sum_by-IsPermutation calls_of passes (first ∷ rest) same,
      ) in
      let docs : List ℕ = 4294967295 ∷ v.made in
      let Known : TurnPass → Type 0 = λ p. 0 < often p.document docs in
      let known : All Known (first ∷ rest) =
      All-cons Known first rest (subst (λ (k : ℕ). 0 < often k docs) (sym is-first) (often-here 4294967295 v.made))
      (each P Known rest first.seat.me.0.ended (λ p q. subst (λ (k : ℕ). 0 < often k docs) p.rests.1 q.3) those) in
      let counts : (d : ℕ) → count_by (is_of d) passes ≡ met (first ∷ rest) d =
      λ d. (let Weight : TurnPass → ℕ = λ q. cond (is_of d q) 1 0 in
      let a : sum_by Weight passes ≡ sum_by Weight (first ∷ rest) =
      sym (sum_by-IsPermutation Weight passes (first ∷ rest) same) in
      let b : sum_by Weight (first ∷ rest) ≡ met (first ∷ rest) d = sum-total Weight (first ∷ rest) in a ∙ b) in
      let has : (d : ℕ) → 0 < often d docs → 0 < count_by (is_of d) passes =
      λ d some-there. dite (ℕ_discrete 4294967295 d)
      (λ (z : 4294967295 ≡ d). subst (λ (k : ℕ). 0 < count_by (is_of k) passes) z all.first)
      (λ ne. let z : one (eqb 4294967295 d) ≡ 0 = ap one (ne_eqb 4294967295 d ne) in made-here d (omega arith)) in
      let long : length (first ∷ rest) ≡ length docs =
      let a : one v.live ≡ 1 = ap one (ap (λ (x : View). x.live) taken ∙ first.rests.2) in
      let b : length v.ended ≡ length rest + length first.seat.me.0.ended = ap (λ (l : List Ended). length l) kept
      ∙ endings-long rest first.seat.me.0.ended in
      omega (arith, cl.count, first.rests.6) in
      record {
        apart = λ d. let a = counts d in
            omega (
              arith,
              met-apart docs (first ∷ rest) cl.once known (λ x h. let b = counts x in let c = has x h in
                  omega arith) long d,
            );
        legal = back Legals
            (λ _. (
              subst (λ (x : List Entry). Legal first.seat.me.0.opening x) (sym h)
                  (subst (λ (x : Book). Legal x cl.history) opening cl.legal),
              b
                  ∙ (ap (λ (x : Book). book_after x cl.history) opening
                  ∙ ap (book_after first.seat.me.0.opening) (sym h)),
            ))
            (each P Legals rest first.seat.me.0.ended
            (λ p q z. absurd (q.2 ((document ∙ is-first) ∙ sym (p.rests.1 ∙ z)))) those);
        own = back Owns (ap (entries_of first.document) h
            ∙ (ap (λ (k : ℕ). entries_of k cl.history) (sym document) ∙ (cl.own ∙ ap (λ (x : View). x.own) taken)))
            (each P Owns rest first.seat.me.0.ended (λ p q. ap (entries_of p.document) h
            ∙ (ap (λ (k : ℕ). entries_of k cl.history) (sym p.rests.1) ∙ q.0)) those);
        seen =
            back Sees (subst (λ (x : List Entry). StartsWith x first.seat.me.0.seen) (sym h)
            (subst (λ (x : List Entry). StartsWith cl.history x) (ap (λ (x : View). x.seen) taken) cl.seen))
            (each P Sees rest first.seat.me.0.ended
            (λ p q. subst (λ (x : List Entry). StartsWith x p.seat.me.0.seen) (sym h) q.1) those);
        named = subst (λ (x : List Entry). All (λ e. 0 < count_by (is_of e.document) passes) x) (sym h)
            (named-all passes docs cl.history has cl.named);
        turns = subst (λ (x : List Entry). All (λ e. e.turn < sum_by calls_of passes) x) (sym h)
            (subst (λ (n : ℕ). All (λ e. e.turn < n) cl.history) drawn-is (turns-all (drawn v) cl.history cl.turns));
      }
