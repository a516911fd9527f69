-- The next document is named, a seat is split and a seat is joined: each keeps the rule.
use Rattle.std.proofs.Common.{◌≡◌, ◌≢◌, ℕ, zero, suc, ◌+◌, ◌*◌, ◌<◌, ◌≤◌, Bool, true, false, eqb, List, [], ◌∷◌, ◌++◌}
use Rattle.std.proofs.Common.{length, drop, get_or, set, sym, refl, ap, ◌∙◌, subst, inl, inr, ⊎_elim, arith}
use Rattle.std.proofs.Common.{length-set, ◌⊎◌, Some, eq-eqb, ne_eqb}
use mathlib.Core.Logic.{dite}
use mathlib.Core.Option.{some, none, some-injective, some-ne-none}
use native.Mathlib.Decide.{ℕ_discrete}
use lib.ListN.{get_elem?}
use lib.Seq.{set-get_or}
use prog.Atomic.{either}
use Rattle.atomic_table.specs.Table.{step, keeps, Allows, Splits, Joins}
use Rattle.atomic_table.proofs.Lists.{at_set, set_else, exchanged}
use Rattle.book_calls.specs.declared.entry.Entry.{Entry}
use Rattle.book_calls.specs.Entries.{entries_of}
use Rattle.book_turns.specs.Private.Sums.{total, one, often}
use Rattle.book_turns.specs.Private.Rule.{drawn, passes_of, waiting, HasDocument, FitsEnded, Fits, Apart, Keeps}
use Rattle.book_turns.specs.Private.Steps.{Sat, Names, forked_left, forked_right, ending, joined, spent}
use Rattle.book_turns.specs.declared.view.View.{View}
use Rattle.book_turns.specs.declared.view.Ended.{Ended}
use Rattle.book_turns.proofs.Sums.{total-append, total-set}
use Rattle.book_turns.proofs.Keeping.{no, set_at, moved}

pub names : (z id : ℕ) (m : Sat) (d : ℕ)
    → Allows Keeps z id m 0 (λ n. either (eqb n d) d n) (Names (step z 0 d d none) m)
names slots id m d s o wide me _ =
    let t : ℕ = get_or s.words 0 0 in let n : ℕ = get_or s.words 1 0 in let v = m.0 in let f = o.fits id v me in
    let w : View = record v { next = d } in
    let x : ℕ = either (eqb t d) d t in
    let is : x ≡ t = exchanged t d d (λ (k : ℕ). k ≡ t) (λ e. sym e) (λ _. refl) in
    let same-words : set s.words 0 x ≡ s.words = ap (set s.words 0) is ∙ set-get_or s.words 0 0 in (
      w,
      keeps,
      tt,
      moved s o id v w (set s.words 0 x) s.homes o.history t n me (length-set s.words 0 x
          ∙ o.two) (ap (λ (l : List ℕ). get_or l 0 0) same-words) (ap (λ (l : List ℕ). get_or l 1 0) same-words)
          o.legal o.turns o.named refl refl refl
          record {
            live = f.live;
            few = f.few;
            few_ended = f.few_ended;
            ended = f.ended;
            waits = f.waits;
            served =
                f.served;
            noted = f.noted;
            leads = f.leads;
          }
          (λ j u ne e a b g. g)
          (λ j u ne e a b g. (
            record { documents = a.documents; tickets = a.tickets; ended = a.ended },
            record { documents = b.documents; tickets = b.tickets; ended = b.ended },
          ))
          (λ none-now. o.home (λ j u e. dite (ℕ_discrete j id)
          (λ (is-me : j ≡ id). let same : u ≡ v = some-injective u v (sym e ∙ (ap (get_elem? s.views) is-me ∙ me)) in
          ap (λ (y : View). y.served) same ∙ none-now id w (set_at s.views id v w me))
          (λ (other : j ≢ id). none-now j u (set_else s.views id j w other ∙ e)))),
      refl,
    )

-- the last item of a longer list, with its place
at_end : (l : List View) (a b : View) (j : ℕ) → get_elem? (l ++ a ∷ []) j ≡ some b → (get_elem? l j ≡ some b)
    ⊎ ((j ≡ length l) × (a ≡ b))
at_end [] a b zero e = inr (refl, some-injective a b e)
at_end [] a b (suc j) e = absurd (some-ne-none b (sym e))
at_end (x ∷ xs) a b zero e = inl e
at_end (x ∷ xs) a b (suc j) e =
    ⊎_elim inl (λ (r : (j ≡ length xs) × (a ≡ b)). inr (ap suc r.0, r.1)) (at_end xs a b j e)

at_longer : (l : List View) (a b : View) (j : ℕ) → get_elem? l j ≡ some b → get_elem? (l ++ a ∷ []) j ≡ some b
at_longer [] a b j e = absurd (some-ne-none b (sym e))
at_longer (x ∷ xs) a b zero e = e
at_longer (x ∷ xs) a b (suc j) e = at_longer xs a b j e

HasDocument-more : (h : List Entry) (docs : List ℕ) (more : List ℕ) → ((d : ℕ) → 0 < often d docs → 0 < often d more)
    → HasDocument h docs → HasDocument h more
HasDocument-more [] docs more up a = tt
HasDocument-more (e ∷ es) docs more up a = (up e.document a.0, HasDocument-more es docs more up a.1)

-- no entry has a document that isn't named
none-of : (h : List Entry) (docs : List ℕ) (d : ℕ) → often d docs ≡ 0 → HasDocument h docs → entries_of d h ≡ []
none-of [] docs d zero-often a = refl
none-of (e ∷ es) docs d zero-often a =
    dite (ℕ_discrete e.document d) (λ (is : e.document ≡ d). let some-there : 0 < often d docs =
    subst (λ (k : ℕ). 0 < often k docs) is a.0 in absurd (omega arith))
    (λ ne. ap (λ (b : Bool). Rattle.std.proofs.Common.cond b (e ∷ entries_of d es) (entries_of d es))
    (ne_eqb e.document d ne) ∙ none-of es docs d zero-often a.1)

pub forks : (id : ℕ) (v : View) → v.live ≡ true → v.document ≡ 4294967295 → v.next < 4294967295 → often v.next v.made
    ≡ 0 → Splits Keeps id v (forked_left v) (forked_right v)
forks id v live first small new s o me =
    let t : ℕ = get_or s.words 0 0 in let n : ℕ = get_or s.words 1 0 in let f = o.fits id v me in let l = f.live live in
    let a : View = forked_left v in let b : View = forked_right v in
    let vs : List View = set s.views id a in
    let docs : List ℕ = 4294967295 ∷ v.next ∷ v.made in
    let was : o.docs ≡ 4294967295 ∷ v.made = l.made first in
    let count-of : (d : ℕ) → often d docs ≡ often d o.docs + one (eqb v.next d) = λ d. let e = ap (often d) was in
    omega arith in
    let up : (d : ℕ) → 0 < often d o.docs → 0 < often d docs = λ d h. omega (arith, count-of d) in
    let not-first : one (eqb 4294967295 v.next) ≡ 0 = ap one (ne_eqb 4294967295 v.next (λ e. omega arith)) in
    let fresh : often v.next o.docs ≡ 0 = let e = ap (often v.next) was in omega arith in
    let apart-from : (d : ℕ) → 0 < often d o.docs → v.next ≢ d = λ d h e. let z : 0 < often v.next o.docs =
    subst (λ (k : ℕ). 0 < often k o.docs) (sym e) h in omega arith in
    let alone : (j : ℕ) (u : View) → j ≢ id → get_elem? s.views j ≡ some u → u.live ≡ true → u.document ≢ 4294967295 =
    λ j u ne e z. λ same. (o.apart j id u v ne e me).documents z live (same ∙ sym first) in
    let sum-a = total-set waiting s.views id v a me in let sum-b = total-set drawn s.views id v a me in let sum-c =
    total-set passes_of s.views id v a me in
    let fit-old : (u : View) → (u.live ≡ true → u.document ≢ 4294967295) → Fits t n o.opening o.history o.docs u
    → Fits t n o.opening o.history docs u = λ u other g. record {
      live = λ z. let k = g.live z in
          record {
            opening_is = k.opening_is;
            own = k.own;
            seen = k.seen;
            known = up u.document k.known;
            made =
                λ y. absurd (other z y);
          };
      few = g.few;
      few_ended = g.few_ended;
      ended = λ k e at. let q = g.ended k e at in
          record { own = q.own; seen = q.seen; known = up e.document q.known; apart = q.apart };
      waits = g.waits;
      served = g.served;
      noted = g.noted;
      leads = g.leads;
    } in
    let fit-a : Fits t n o.opening o.history docs a = record {
      live = λ z. record {
        opening_is = l.opening_is;
        own = l.own;
        seen = l.seen;
        known = up v.document l.known;
        made = λ _. refl;
      };
      few = f.few;
      few_ended = f.few_ended;
      ended = λ k e at. let q = f.ended k e at in
          record { own = q.own; seen = q.seen; known = up e.document q.known; apart = q.apart };
      waits = f.waits;
      served = f.served;
      noted = f.noted;
      leads = f.leads;
    } in
    let here : 0 < often v.next docs = let e : one (eqb v.next v.next) ≡ 1 = ap one (eq-eqb v.next v.next refl) in
    omega (arith, count-of v.next) in
    let fit-b : Fits t n o.opening o.history docs b = record {
      live = λ _. record {
        opening_is = l.opening_is;
        own = none-of o.history o.docs v.next fresh o.named;
        seen =
            l.seen;
        known = here;
        made = λ e. absurd (omega arith);
      };
      few = omega arith;
      few_ended = omega arith;
      ended = λ k e at. absurd (some-ne-none e (sym at));
      waits = λ z. no false z refl;
      served = λ z. no false z refl;
      noted = λ z. no false z refl;
      leads = λ _. refl;
    } in
    let near-a : (j : ℕ) (u : View) → j ≢ id → get_elem? s.views j ≡ some u → Apart a u × Apart u a =
    λ j u ne e. let p = o.apart id j v u (λ h. ne (sym h)) me e in let q = o.apart j id u v ne e me in (
      record { documents = p.documents; tickets = p.tickets; ended = p.ended },
      record { documents = q.documents; tickets = q.tickets; ended = q.ended },
    ) in
    let near-b : (u : View) → Fits t n o.opening o.history o.docs u → Apart b u × Apart u b = λ u g. (
      record {
        documents = λ _ z. apart-from u.document (g.live z).known;
        tickets = λ z _ _. no false z refl;
        ended =
            λ _ k e at. apart-from e.document (g.ended k e at).known;
      },
      record {
        documents = λ z _ e. apart-from u.document (g.live z).known (sym e);
        tickets =
            λ _ z _. no false z refl;
        ended = λ _ k e at. absurd (some-ne-none e (sym at));
      },
    ) in
    let near-ab : Apart b a × Apart a b = let p = near-b v f in (
      record { documents = p.0.documents; tickets = p.0.tickets; ended = p.0.ended },
      record { documents = p.1.documents; tickets = p.1.tickets; ended = p.1.ended },
    ) in
    let pair-old : (i j : ℕ) (x y : View) → i ≢ j → get_elem? vs i ≡ some x → get_elem? vs j ≡ some y → Apart x y =
    λ i j x y ne e d.
    ⊎_elim
    (λ (p : (i ≡ id) × (a ≡ x)). ⊎_elim (λ (r : (j ≡ id) × (a ≡ y)). absurd (ne (p.0 ∙ sym r.0)))
    (λ (r : (j ≢ id) × (get_elem? s.views j ≡ some y)). subst (λ (z : View). Apart z y) p.1 (near-a j y r.0 r.1).0)
    (at_set s.views id j a y d))
    (λ (p : (i ≢ id) × (get_elem? s.views i ≡ some x)). ⊎_elim
    (λ (r : (j ≡ id) × (a ≡ y)). subst (λ (z : View). Apart x z) r.1 (near-a i x p.0 p.1).1)
    (λ (r : (j ≢ id) × (get_elem? s.views j ≡ some y)). o.apart i j x y ne p.1 r.1) (at_set s.views id j a y d))
    (at_set s.views id i a x e) in
    let with-b : (i : ℕ) (x : View) → get_elem? vs i ≡ some x → Apart b x × Apart x b = λ i x e.
    ⊎_elim (λ (p : (i ≡ id) × (a ≡ x)). subst (λ (z : View). Apart b z × Apart z b) p.1 near-ab)
    (λ (p : (i ≢ id) × (get_elem? s.views i ≡ some x)). near-b x (o.fits i x p.1)) (at_set s.views id i a x e) in
    record {
      opening = o.opening;
      history = o.history;
      docs = docs;
      two = o.two;
      legal = o.legal;
      turns = o.turns;
      named = HasDocument-more o.history o.docs docs up o.named;
      queue = omega (arith, o.queue, total-append waiting vs (b ∷ []));
      sum = omega (arith, o.sum, total-append drawn vs (b ∷ []));
      count = let e = ap (λ (x : List ℕ). length x) was in omega (arith, o.count, total-append passes_of vs (b ∷ []));
      once = λ d. dite (ℕ_discrete v.next d) (λ (e : v.next ≡ d). let z : often d o.docs ≡ 0 =
          subst (λ (k : ℕ). often k o.docs ≡ 0) e fresh in let y : one (eqb v.next d) ≡ 1 = ap one (eq-eqb v.next d e)
          in omega (arith, count-of d))
          (λ ne. let y : one (eqb v.next d) ≡ 0 = ap one (ne_eqb v.next d ne) in omega (arith, count-of d, o.once d));
      small = λ d big. let y : one (eqb v.next d) ≡ 0 = ap one (ne_eqb v.next d (λ e. omega arith)) in
          omega (arith, count-of d, o.small d big);
      fits = λ j u e. ⊎_elim
          (λ (r : get_elem? vs j ≡ some u). ⊎_elim
          (λ (p : (j ≡ id) × (a ≡ u)). subst (Fits t n o.opening o.history docs) p.1 fit-a)
          (λ (p : (j ≢ id) × (get_elem? s.views j ≡ some u)). fit-old u (alone j u p.0 p.1) (o.fits j u p.1))
          (at_set s.views id j a u r))
          (λ (r : (j ≡ length vs) × (b ≡ u)). subst (Fits t n o.opening o.history docs) r.1 fit-b) (at_end vs b u j e);
      apart = λ i j x y ne e d. ⊎_elim
          (λ (p : get_elem? vs i ≡ some x). ⊎_elim (λ (r : get_elem? vs j ≡ some y). pair-old i j x y ne p r)
          (λ (r : (j ≡ length vs) × (b ≡ y)). subst (λ (z : View). Apart x z) r.1 (with-b i x p).1) (at_end vs b y j d))
          (λ (p : (i ≡ length vs) × (b ≡ x)). ⊎_elim
          (λ (r : get_elem? vs j ≡ some y). subst (λ (z : View). Apart z y) p.1 (with-b j y r).0)
          (λ (r : (j ≡ length vs) × (b ≡ y)). absurd (ne (p.0 ∙ sym r.0))) (at_end vs b y j d))
          (at_end vs b x i e);
      home = λ none-now. o.home (λ j u e. dite (ℕ_discrete j id)
          (λ (is-me : j ≡ id). let same : u ≡ v = some-injective u v (sym e ∙ (ap (get_elem? s.views) is-me ∙ me)) in
          ap (λ (y : View). y.served) same ∙ none-now id a (at_longer vs b a id (set_at s.views id v a me)))
          (λ (other : j ≢ id). none-now j u (at_longer vs b u j (set_else s.views id j a other ∙ e))));
    }

with-spent : (u : View) → Apart spent u × Apart u spent
with-spent u = (
  record { documents = λ z. no false z refl; tickets = λ z. no false z refl; ended = λ z. no false z refl },
  record {
    documents = λ _ z. no false z refl;
    tickets = λ _ z. no false z refl;
    ended =
        λ _ k e at. absurd (some-ne-none e (sym at));
  },
)

ended-cases : (h : List Entry) (docs : List ℕ) (d : ℕ) (x : Ended) (xs : List Ended) → FitsEnded h docs d x
    → ((k : ℕ) (e : Ended) → get_elem? xs k ≡ some e → FitsEnded h docs d e)
    → (k : ℕ) (e : Ended) → get_elem? (x ∷ xs) k ≡ some e → FitsEnded h docs d e
ended-cases h docs d x xs head tail zero e at = subst (FitsEnded h docs d) (some-injective x e at) head
ended-cases h docs d x xs head tail (suc k) e at = tail k e at

kept-apart : (d : ℕ) (x : Ended) (xs : List Ended) → d ≢ x.document
    → ((k : ℕ) (e : Ended) → get_elem? xs k ≡ some e → d ≢ e.document) → (k : ℕ) (e : Ended) → get_elem? (x ∷ xs) k
    ≡ some e → d ≢ e.document
kept-apart d x xs head tail zero e at =
    λ same. head (same ∙ ap (λ (y : Ended). y.document) (sym (some-injective x e at)))
kept-apart d x xs head tail (suc k) e at = tail k e at

pub joins : (id : ℕ) (v : View) (other : ℕ) (w : View) → v.live ≡ true → v.document ≡ 4294967295 → w.live ≡ true
    → w.waits ≡ false → w.served ≡ false → Joins Keeps id v other w (joined v w) spent
joins id v other w live first ends idle unserved s o me apart there =
    let t : ℕ = get_or s.words 0 0 in let n : ℕ = get_or s.words 1 0 in let b : View = joined v w in
    let vs : List View = set s.views id b in let us : List View = set vs other spent in
    let here : get_elem? s.views other ≡ some w = sym (set_else s.views id other b apart) ∙ there in
    let f = o.fits id v me in let l = f.live live in let g = o.fits other w here in let k = g.live ends in
    let p = o.apart id other v w (λ e. apart (sym e)) me here in let q = o.apart other id w v apart here me in
    let none-kept : w.ended ≡ [] = g.leads (λ _ e. p.documents live ends (first ∙ sym e)) in
    let zero-draws : total (λ e. e.draws) w.ended ≡ 0 = ap (λ (x : List Ended). total (λ e. e.draws) x) none-kept in
    let zero-kept : length w.ended ≡ 0 = ap (λ (x : List Ended). length x) none-kept in
    let lone : one w.live ≡ 1 = ap one ends in let lone-v : one v.live ≡ 1 = ap one live in let rests : one w.waits
    ≡ 0 = ap one idle in
    let a₁ = total-set waiting s.views id v b me in let a₂ = total-set waiting vs other w spent there in
    let b₁ = total-set drawn s.views id v b me in let b₂ = total-set drawn vs other w spent there in
    let c₁ = total-set passes_of s.views id v b me in let c₂ = total-set passes_of vs other w spent there in
    let F : View → Type 0 = Fits t n o.opening o.history o.docs in
    let fit-b : F b = record {
      live = λ _. record { opening_is = l.opening_is; own = l.own; seen = l.seen; known = l.known; made = l.made };
      few = f.few;
      few_ended = omega (arith, f.few_ended, g.few);
      ended = ended-cases o.history o.docs v.document (ending w) v.ended record {
        own = k.own;
        seen = k.seen;
        known =
            k.known;
        apart = p.documents live ends;
      } f.ended;
      waits = f.waits;
      served = f.served;
      noted = f.noted;
      leads = λ ne. absurd (ne live first);
    } in
    let fit-spent : F spent = record {
      live = λ z. no false z refl;
      few = omega arith;
      few_ended = omega arith;
      ended = λ j e at. absurd (some-ne-none e (sym at));
      waits = λ z. no false z refl;
      served = λ z. no false z refl;
      noted = λ z. no false z refl;
      leads = λ _. refl;
    } in
    let near : (j : ℕ) (u : View) → j ≢ id → j ≢ other → get_elem? s.views j ≡ some u → Apart b u × Apart u b =
    λ j u ne nt e. let x = o.apart id j v u (λ h. ne (sym h)) me e in let y = o.apart j id u v ne e me in let z =
    o.apart j other u w nt e here in (
      record { documents = x.documents; tickets = x.tickets; ended = x.ended },
      record {
        documents = y.documents;
        tickets = y.tickets;
        ended =
            λ alive. kept-apart u.document (ending w) v.ended (λ h. z.documents alive ends (sym (sym h)))
            (y.ended alive);
      },
    ) in
    let pair-old : (i j : ℕ) (x y : View) → i ≢ j → i ≢ other → j ≢ other → get_elem? vs i ≡ some x → get_elem? vs j
    ≡ some y → Apart x y = λ i j x y ne no-i no-j e d.
    ⊎_elim
    (λ (r : (i ≡ id) × (b ≡ x)). ⊎_elim (λ (c : (j ≡ id) × (b ≡ y)). absurd (ne (r.0 ∙ sym c.0)))
    (λ (c : (j ≢ id) × (get_elem? s.views j ≡ some y)). subst (λ (z : View). Apart z y) r.1 (near j y c.0 no-j c.1).0)
    (at_set s.views id j b y d))
    (λ (r : (i ≢ id) × (get_elem? s.views i ≡ some x)). ⊎_elim
    (λ (c : (j ≡ id) × (b ≡ y)). subst (λ (z : View). Apart x z) c.1 (near i x r.0 no-i r.1).1)
    (λ (c : (j ≢ id) × (get_elem? s.views j ≡ some y)). o.apart i j x y ne r.1 c.1) (at_set s.views id j b y d))
    (at_set s.views id i b x e) in
    record {
      opening = o.opening;
      history = o.history;
      docs = o.docs;
      two = o.two;
      legal = o.legal;
      turns = o.turns;
      named = o.named;
      queue = omega (arith, o.queue);
      sum = omega (arith, o.sum);
      count = omega (arith, o.count);
      once = o.once;
      small = o.small;
      fits = λ j u e. ⊎_elim (λ (r : (j ≡ other) × (spent ≡ u)). subst F r.1 fit-spent)
          (λ (r : (j ≢ other) × (get_elem? vs j ≡ some u)). ⊎_elim (λ (c : (j ≡ id) × (b ≡ u)). subst F c.1 fit-b)
          (λ (c : (j ≢ id) × (get_elem? s.views j ≡ some u)). o.fits j u c.1) (at_set s.views id j b u r.1))
          (at_set vs other j spent u e);
      apart = λ i j x y ne e d. ⊎_elim
          (λ (r : (i ≡ other) × (spent ≡ x)). subst (λ (z : View). Apart z y) r.1 (with-spent y).0)
          (λ (r : (i ≢ other) × (get_elem? vs i ≡ some x)). ⊎_elim
          (λ (c : (j ≡ other) × (spent ≡ y)). subst (λ (z : View). Apart x z) c.1 (with-spent x).1)
          (λ (c : (j ≢ other) × (get_elem? vs j ≡ some y)). pair-old i j x y ne r.0 c.0 r.1 c.1)
          (at_set vs other j spent y d))
          (at_set vs other i spent x e);
      home = λ none-now. o.home (λ j u e. dite (ℕ_discrete j other)
          (λ (is : j ≡ other). let same : u ≡ w = some-injective u w (sym e ∙ (ap (get_elem? s.views) is ∙ here)) in
          ap (λ (y : View). y.served) same ∙ unserved)
          (λ (not-other : j ≢ other). dite (ℕ_discrete j id)
          (λ (is-me : j ≡ id). let same : u ≡ v = some-injective u v (sym e ∙ (ap (get_elem? s.views) is-me ∙ me)) in
          ap (λ (y : View). y.served) same
          ∙ none-now id b (set_else vs other id spent (λ e. apart (sym e)) ∙ set_at s.views id v b me))
          (λ (not-me : j ≢ id). none-now j u (set_else vs other j spent not-other
          ∙ (set_else s.views id j b not-me ∙ e)))));
    }
