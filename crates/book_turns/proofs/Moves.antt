-- Draws, looks and passes keep the rule.
use Rattle.std.proofs.Common.{◌≡◌, ◌≢◌, ℕ, ◌+◌, ◌*◌, ◌^◌, ◌%◌, ◌<◌, ◌≤◌, true, false, List, [], ◌∷◌, ◌++◌, get_or}
use Rattle.std.proofs.Common.{set, sym, refl, ap, ◌∙◌, subst, inl, inr, ⊎_elim, arith, length-set, get_or-set_other}
use Rattle.std.proofs.Common.{get_or-set_same, Some}
use Rattle.std.proofs.lemmas.Bool.{cases_Bool}
use Rattle.std.specs.declared.option.Option.{Option}
use mathlib.Core.Logic.{dite}
use mathlib.Core.Option.{some, none, some-injective}
use native.Mathlib.Decide.{ℕ_discrete}
use lib.ListN.{get_elem?}
use lib.Seq.{set-get_or}
use Rattle.atomic_table.specs.Table.{step, keeps, takes, gives, Allows}
use Rattle.atomic_table.proofs.Lists.{set_here}
use Rattle.book_calls.specs.declared.book.Book.{Book}
use Rattle.book_calls.specs.declared.entry.Entry.{Entry}
use Rattle.book_calls.specs.Entries.{book_after, Legal, entries_of, AllTurnsBelow, StartsWith}
use Rattle.book_calls.specs.Book.{reply}
use Rattle.std.proofs.lemmas.List.{append-nil}
use Rattle.book_calls.proofs.EntryLemmas.{StartsWith-refl, StartsWith-trans, StartsWith-more, LegalFrom-snoc}
use Rattle.book_calls.proofs.EntryLemmas.{AllTurnsBelow-mono, AllTurnsBelow-snoc, entries_of-snoc_same}
use Rattle.book_calls.proofs.EntryLemmas.{entries_of-snoc_other}
use Rattle.book_turns.specs.Private.Sums.{one, often}
use Rattle.book_turns.specs.Private.Rule.{desk, HasDocument, Fits, Keeps}
use Rattle.book_turns.specs.Private.Steps.{Sat, drew, Draws, Looks, held, noting, Notes, passed, Passes}
use Rattle.book_turns.specs.declared.desk.Desk.{Desk}
use Rattle.book_turns.specs.declared.view.View.{View}
use Rattle.book_turns.proofs.Keeping.{St, no, set_at, moved, unmoved, roomy}

fits_wider : (t t' n : ℕ) (opening : Book) (h : List Entry) (docs : List ℕ) (u : View) → t ≤ t'
    → Fits t n opening h docs u → Fits t' n opening h docs u
fits_wider t t' n opening h docs u le f = record {
  live = f.live;
  few = f.few;
  few_ended = f.few_ended;
  ended = f.ended;
  waits = λ z. let r = f.waits z in (r.0, omega (arith, r.1));
  served = f.served;
  noted = f.noted;
  leads = f.leads;
}

pub draws : (z id : ℕ) (m : Sat) → m.0.live ≡ true → m.0.waits ≡ false → m.0.served ≡ false → m.0.draws < 4294967295
    → Allows Keeps z id m 0 (λ n. (n + 1) % 2 ^ 64) (Draws (step z 0 1 0 none) m)
draws slots id m live idle unserved room s o wide me _ =
    let t : ℕ = get_or s.words 0 0 in let n : ℕ = get_or s.words 1 0 in let v = m.0 in let w : View = drew v t in
    let f = o.fits id v me in let lone : one v.live ≡ 1 = ap one live in let zero-waits : one v.waits ≡ 0 =
    ap one idle in
    let few : v.draws + 1 ≤ 4294967295 * one v.live = omega arith in
    let lt : t + 1 < 18446744073709551616 = omega (arith, roomy s o id v w me refl (omega (arith, f.few_ended))) in
    let is : (t + 1) % 18446744073709551616 ≡ t + 1 = omega arith in
    let long = o.two in
    let ahead : n ≤ t = omega (arith, o.queue) in (
      w,
      keeps,
      tt,
      moved s o id v w (set s.words 0 ((t + 1) % 2 ^ 64)) s.homes o.history (t + 1) n me
          (length-set s.words 0 ((t + 1) % 2 ^ 64)
          ∙ o.two) (get_or-set_same s.words 0 ((t + 1) % 2 ^ 64) 0 (omega arith) ∙ is)
          (get_or-set_other s.words 0 1 ((t + 1) % 2 ^ 64) 0 (λ e. omega arith)) o.legal o.turns o.named (omega arith)
          (omega arith) refl
          record {
            live = f.live;
            few = few;
            few_ended = f.few_ended;
            ended = f.ended;
            waits = λ _. (ahead, omega arith);
            served = λ z. no v.served z unserved;
            noted = f.noted;
            leads = f.leads;
          }
          (λ j u ne e a b g. fits_wider t (t + 1) n o.opening o.history o.docs u (omega arith) g)
          (λ j u ne e a b g. (
            record {
              documents = a.documents;
              tickets = λ _ z same. let r = (g.waits z).1 in omega arith;
              ended =
                  a.ended;
            },
            record {
              documents = b.documents;
              tickets = λ z _ same. let r = (g.waits z).1 in omega arith;
              ended =
                  b.ended;
            },
          ))
          (λ none-served. o.home
          (λ j u e. ⊎_elim (λ (z : u.served ≡ true). ⊎_elim (λ (is-me : j ≡ id). let same : u ≡ v =
          some-injective u v (sym e ∙ (ap (get_elem? s.views) is-me ∙ me)) in ap (λ (x : View). x.served) same
          ∙ unserved)
          (λ (other : j ≢ id). none-served j u (Rattle.atomic_table.proofs.Lists.set_else s.views id j w other ∙ e))
          (dite (ℕ_discrete j id) inl inr)) (λ (z : u.served ≡ false). z) (cases_Bool u.served))),
      (lt, refl),
    )

-- where the pass with the ticket that is served isn't served itself, none is
none-served : (s : St) (o : Keeps s) (id : ℕ) (v : View) → get_elem? s.views id ≡ some v → v.waits ≡ true → v.served
    ≡ false → get_or s.words 1 0 ≡ v.ticket
    → (j : ℕ) (u : View) → get_elem? s.views j ≡ some u → u.served ≡ false
none-served s o id v me waits unserved mine j u e = ⊎_elim (λ (z : u.served ≡ true).
    let g = (o.fits j u e).served z in
    dite (ℕ_discrete id j) (λ (is-me : id ≡ j). let same : u ≡ v =
    some-injective u v (sym e ∙ (ap (get_elem? s.views) (sym is-me) ∙ me)) in ap (λ (x : View). x.served) same
    ∙ unserved)
    (λ (other : id ≢ j). absurd ((o.apart id j v u other me e).tickets waits g.waits_is (sym mine
    ∙ sym g.ticket_is)))) (λ (z : u.served ≡ false). z) (cases_Bool u.served)

pub looks : (z id : ℕ) (m : Sat) → m.0.live ≡ true → m.0.waits ≡ true → m.0.served ≡ false
    → Allows Keeps z id m 1 (λ n. n) (Looks (step z 1 0 0 none) m)
looks slots id m live waits unserved s o wide me _ =
    let t : ℕ = get_or s.words 0 0 in let n : ℕ = get_or s.words 1 0 in let v = m.0 in let f = o.fits id v me in
    let l = f.live live in
    let same-words = set-get_or s.words 1 0 in let ws : List ℕ = set s.words 1 n in
    dite (ℕ_discrete n v.ticket)
    (λ (hit : n ≡ v.ticket).
    let h = o.history in let w : View = record v { served = true; seen = h } in
    let d : Desk = desk (book_after v.opening h) h in
    let none-yet = none-served s o id v me waits unserved hit in
    let there : get_elem? s.homes 0 ≡ some (some (Some d)) =
    subst (λ (b : Book). get_elem? s.homes 0 ≡ some (some (Some (desk (book_after b h) h)))) (sym l.opening_is)
    (o.home none-yet) in (
      w,
      takes 0 (Some d),
      there,
      moved s o id v w ws (set s.homes 0 none) h t n me (length-set s.words 1 n
          ∙ o.two) (ap (λ (x : List ℕ). get_or x 0 0) same-words) (ap (λ (x : List ℕ). get_or x 1 0) same-words)
          o.legal o.turns o.named refl refl refl
          record {
            live = λ _. record {
              opening_is = l.opening_is;
              own = l.own;
              seen = StartsWith-refl h;
              known = l.known;
              made = l.made;
            };
            few = f.few;
            few_ended = f.few_ended;
            ended = f.ended;
            waits = f.waits;
            served = λ _. record { live_is = live; waits_is = waits; ticket_is = sym hit; seen = refl };
            noted = λ _. refl;
            leads = f.leads;
          }
          (λ j u ne e a b g. g)
          (λ j u ne e a b g. (
            record { documents = a.documents; tickets = a.tickets; ended = a.ended },
            record { documents = b.documents; tickets = b.tickets; ended = b.ended },
          ))
          (λ none-now. no true refl (none-now id w (set_at s.views id v w me))),
      (
        (λ _. record {
          legal = subst (λ (b : Book). Legal b h) (sym l.opening_is) o.legal;
          turns = subst (λ (k : ℕ). AllTurnsBelow k h) hit o.turns;
          later = l.seen;
          own = l.own;
          is = refl;
        }),
        λ miss. absurd (miss hit),
      ),
    ))
    (λ (miss : n ≢ v.ticket). (v, keeps, tt, unmoved s o 1 id v me, ((λ hit. absurd (miss hit)), λ _. refl)))

-- what a served pass may leave as the history: what it saw, or that and an entry of its own
pub record Grows (v : View) (h : List Entry) : Type 0 where
  pub legal : Legal v.opening h
  pub turns : AllTurnsBelow (v.ticket + 1) h
  pub item : h ≡ v.seen ++ v.item
  pub own : entries_of v.document h ≡ entries_of v.document v.seen ++ v.item
  pub others : (d : ℕ) → d ≢ v.document → entries_of d h ≡ entries_of d v.seen
  pub named : (docs : List ℕ) → 0 < often v.document docs → HasDocument v.seen docs → HasDocument h docs
  pub later : StartsWith h v.seen

pub passes_at : (z id : ℕ) (v : View) (new : ℕ) (h : List Entry) → v.live ≡ true → v.waits ≡ true → v.served ≡ true
    → new ≡ v.ticket + 1 → Grows v h
    → 0 < z → let m : Sat = (v, (0, Some (desk (book_after v.opening h) h)) ∷ []) in
    Allows Keeps z id m 1 (λ _. new) (λ _. Passes (step z 1 new 0 none) m new)
passes_at slots id v new h live waits served next grows some-slot s o wide me _ =
    let t : ℕ = get_or s.words 0 0 in let n : ℕ = get_or s.words 1 0 in let f = o.fits id v me in let l = f.live live
    in let sv = f.served served in
    let w : View = passed v in let ws : List ℕ = set s.words 1 new in
    let ticket : v.ticket ≡ n = sv.ticket_is in let saw : v.seen ≡ o.history = sv.seen in
    let range = f.waits waits in let lone : one v.waits ≡ 1 = ap one waits in
    let is-n : new ≡ n + 1 = omega arith in
    let long = o.two in
    let later : (seen : List Entry) → StartsWith o.history seen → StartsWith h seen =
    λ seen p. StartsWith-trans h v.seen seen grows.later
    (subst (λ (x : List Entry). StartsWith x seen) (sym saw) p) in
    let same : (d : ℕ) → d ≢ v.document → entries_of d h ≡ entries_of d o.history = λ d ne. grows.others d ne
    ∙ ap (entries_of d) saw in
    let had : Desk = desk (book_after v.opening h) h in (
      w,
      gives,
      tt,
      moved s o id v w ws (set s.homes 0 (some (Some had))) h t (n + 1) me (length-set s.words 1 new
          ∙ o.two) (get_or-set_other s.words 1 0 new 0 (λ e. omega arith))
          (get_or-set_same s.words 1 new 0 (omega arith) ∙ is-n)
          (subst (λ (b : Book). Legal b h) l.opening_is grows.legal)
          (subst (λ (k : ℕ). AllTurnsBelow (k + 1) h) ticket grows.turns)
          (grows.named o.docs l.known (subst (λ (x : List Entry). HasDocument x o.docs) (sym saw) o.named))
          (omega arith) refl refl
          record {
            live = λ _. record {
              opening_is = l.opening_is;
              own = grows.own
                  ∙ ap (λ (x : List Entry). x ++ v.item) (ap (entries_of v.document) saw ∙ l.own);
              seen =
                  subst (StartsWith h) grows.item (StartsWith-refl h);
              known = l.known;
              made = l.made;
            };
            few = f.few;
            few_ended = f.few_ended;
            ended = λ k e at. let g = f.ended k e at in
                record {
                  own = same e.document (λ z. g.apart (sym z)) ∙ g.own;
                  seen = later e.seen g.seen;
                  known =
                      g.known;
                  apart = g.apart;
                };
            waits = λ z. no false z refl;
            served = λ z. no false z refl;
            noted = λ z. no false z refl;
            leads = f.leads;
          }
          (λ j u ne e a b g. record {
            live = λ z. let k = g.live z in
                record {
                  opening_is = k.opening_is;
                  own = same u.document (λ x. a.documents live z (sym x)) ∙ k.own;
                  seen = later u.seen k.seen;
                  known = k.known;
                  made = k.made;
                };
            few = g.few;
            few_ended = g.few_ended;
            ended = λ k x at. let q = g.ended k x at in
                record {
                  own = same x.document (λ z. a.ended live k x at (sym z)) ∙ q.own;
                  seen = later x.seen q.seen;
                  known = q.known;
                  apart = q.apart;
                };
            waits = λ z. let r = g.waits z in let apart : v.ticket ≢ u.ticket = a.tickets waits z in let r₀ = r.0 in
                let r₁ = r.1 in (omega arith, r₁);
            served = λ z. let q = g.served z in absurd (a.tickets waits q.waits_is (ticket ∙ sym q.ticket_is));
            noted = g.noted;
            leads = g.leads;
          })
          (λ j u ne e a b g. (
            record { documents = a.documents; tickets = λ z _ _. no false z refl; ended = a.ended },
            record { documents = b.documents; tickets = λ _ z _. no false z refl; ended = b.ended },
          ))
          (λ _. subst (λ (b : Book). get_elem? (set s.homes 0 (some (Some had))) 0
          ≡ some (some (Some (desk (book_after b h) h)))) l.opening_is
          (set_here s.homes 0 (some (Some had)) (omega arith))),
      refl,
    )

pub passes : (z id : ℕ) (m : Sat) (new : ℕ) (h : List Entry) → m.0.live ≡ true → m.0.waits ≡ true → m.0.served ≡ true
    → new ≡ m.0.ticket + 1
    → m.1 ≡ (0, Some (desk (book_after m.0.opening h) h)) ∷ [] → Grows m.0 h → 0 < z
    → Allows Keeps z id m 1 (λ _. new) (λ _. Passes (step z 1 new 0 none) m new)
passes slots id m new h live waits served next holds grows some-slot =
    subst (λ (c : List (ℕ × Option Desk)). Allows Keeps slots id (
      m.0,
      c,
    ) 1 (λ _. new) (λ _. Passes (step slots 1 new 0 none) (m.0, c) new)) (sym holds)
    (passes_at slots id m.0 new h live waits served next grows some-slot)

-- a skip: the history is what was seen
pub grows_skip : (v : View) → v.item ≡ [] → Legal v.opening v.seen → AllTurnsBelow v.ticket v.seen → Grows v v.seen
grows_skip v empty legal turns = record {
  legal = legal;
  turns = AllTurnsBelow-mono v.ticket (v.ticket + 1) v.seen (omega arith) turns;
  item = sym (ap (λ (x : List Entry). v.seen ++ x) empty ∙ append-nil v.seen);
  own = sym (ap (λ (x : List Entry). entries_of v.document v.seen ++ x) empty
      ∙ append-nil (entries_of v.document v.seen));
  others = λ d ne. refl;
  named = λ docs known named. named;
  later = StartsWith-refl v.seen;
}

HasDocument-snoc : (h : List Entry) (e : Entry) (docs : List ℕ) → HasDocument h docs → 0 < often e.document docs
    → HasDocument (h ++ e ∷ []) docs
HasDocument-snoc [] e docs a lt = (lt, tt)
HasDocument-snoc (x ∷ xs) e docs a lt = (a.0, HasDocument-snoc xs e docs a.1 lt)

-- an entry of the pass's own
pub grows_entry : (v : View) (e : Entry) → v.item ≡ e ∷ [] → Legal v.opening v.seen → AllTurnsBelow v.ticket v.seen
    → e.turn ≡ v.ticket → e.document ≡ v.document → e.reply ≡ reply (book_after v.opening v.seen) e.op
    → Grows v (v.seen ++ e ∷ [])
grows_entry v e item legal turns turn document is = record {
  legal = LegalFrom-snoc v.opening 0 v.ticket v.seen e legal (omega arith) turns turn is;
  turns = AllTurnsBelow-snoc (v.ticket + 1) v.seen e
      (AllTurnsBelow-mono v.ticket (v.ticket + 1) v.seen (omega arith) turns) (omega arith);
  item = ap (λ (x : List Entry). v.seen ++ x) (sym item);
  own = entries_of-snoc_same v.document v.seen e document
      ∙ ap (λ (x : List Entry). entries_of v.document v.seen ++ x) (sym item);
  others = λ d ne. entries_of-snoc_other d v.seen e (λ z. ne (sym z ∙ document));
  named = λ docs known named. HasDocument-snoc v.seen e docs named
      (subst (λ (k : ℕ). 0 < often k docs) (sym document) known);
  later = StartsWith-more v.seen (e ∷ []) v.seen (StartsWith-refl v.seen);
}

-- a served pass notes its item
pub notes : (z id : ℕ) (m : Sat) → m.0.served ≡ true → Allows Keeps z id m 1 (λ n. n) (Notes (step z 1 0 0 none) m)
notes slots id m served s o wide me _ =
    let t : ℕ = get_or s.words 0 0 in let n : ℕ = get_or s.words 1 0 in let v = m.0 in let f = o.fits id v me in
    let w : View = noting v (held m.1) in
    let same-words = set-get_or s.words 1 0 in (
      w,
      keeps,
      tt,
      moved s o id v w (set s.words 1 n) s.homes o.history t n me (length-set s.words 1 n
          ∙ o.two) (ap (λ (x : List ℕ). get_or x 0 0) same-words) (ap (λ (x : List ℕ). get_or x 1 0) same-words)
          o.legal o.turns o.named refl refl refl
          record {
            live = f.live;
            few = f.few;
            few_ended = f.few_ended;
            ended = f.ended;
            waits = f.waits;
            served =
                f.served;
            noted = λ _. served;
            leads = f.leads;
          }
          (λ j u ne e a b g. g)
          (λ j u ne e a b g. (
            record { documents = a.documents; tickets = a.tickets; ended = a.ended },
            record { documents = b.documents; tickets = b.tickets; ended = b.ended },
          ))
          (λ none-now. no v.served served (none-now id w (set_at s.views id v w me))),
      refl,
    )
