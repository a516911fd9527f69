-- One call, over plain views: m₀ before it, m₁ with a ticket, m₂ served, m₃ with the desk taken out, m₄ with the
-- desk put back.
use Rattle.std.proofs.Common.{◌≡◌, ℕ, ◌+◌, ◌<◌, true, List, [], ◌∷◌, ◌++◌, length, drop, sym, refl, ap, ◌∙◌, subst}
use Rattle.std.proofs.Common.{arith, Some, None, Result, Ok, Err, IfOk}
use Rattle.std.specs.declared.option.Option.{Option}
use Rattle.std.proofs.Math.Seq.{drop-append_seam, drop-length}
use mathlib.Core.Option.{none}
use Rattle.atomic_table.specs.Table.{step, rest, Allows}
use Rattle.book_calls.specs.declared.book.Book.{Book}
use Rattle.book_calls.specs.declared.entry.Entry.{Entry}
use Rattle.book_calls.specs.declared.op.Op.{Op}
use Rattle.book_calls.specs.declared.op.Reply.{Reply}
use Rattle.value_bytes.specs.declared.memory.OutOfMemory.{OutOfMemory}
use Rattle.book_calls.specs.Entries.{entry, book_after, entries_of, Legal, AllTurnsBelow, StartsWith, Extends}
use Rattle.std.proofs.lemmas.List.{append-nil}
use Rattle.book_calls.proofs.EntryLemmas.{book_after-append, entries_of-snoc_same, LegalFrom-snoc}
use Rattle.book_turns.specs.Private.Rule.{desk, Keeps}
use Rattle.book_turns.specs.Private.Steps.{Sat, drew, Served, held, noting, passed, Passes, Made}
use Rattle.book_turns.specs.declared.desk.Desk.{Desk}
use Rattle.book_turns.specs.declared.view.View.{View}
use Rattle.book_turns.proofs.Moves.{grows_skip, grows_entry, passes_at}

abbrev pub served_view : View → ℕ → List Entry → View
served_view v t h = record (drew v t) { served = true; seen = h }

abbrev pub noted_view : View → ℕ → List Entry → Desk → View
noted_view v t h d = noting (served_view v t h) d.history

pub nothing_held : (c : List (ℕ × Option Desk)) → length c ≡ 0 → c ≡ []
nothing_held [] e = refl
nothing_held (x ∷ xs) e = absurd (omega arith)

first_held : (a b : Option Desk) (xs ys : List (ℕ × Option Desk)) → (0, a) ∷ xs ≡ (0, b) ∷ ys → a ≡ b
first_held a b xs ys e =
    let x : ℕ × Option Desk = (0, a) in let y : ℕ × Option Desk = (0, b) in let p : x ≡ y = cc in
    ap (λ (q : ℕ × Option Desk). q.1) p

pub some_desk : (a b : Desk) → Some a ≡ Some b → a ≡ b
some_desk a b e = cc

-- the desk that is taken out is the one that the rule had at home
pub taken_is : (m₀ m₁ m₂ : Sat) (t : ℕ) (h : List Entry) (found : Option Desk) (d : Desk) → m₁ ≡ (drew m₀.0 t, m₀.1)
    → Served m₁ h m₂ → m₂.1 ≡ (0, found) ∷ rest m₂.1 → found ≡ Some d → d ≡ desk (book_after m₀.0.opening h) h
taken_is m₀ m₁ m₂ t h found d e₁ sv there is =
    let opening : m₁.0.opening ≡ m₀.0.opening = ap (λ (m : Sat). m.0.opening) e₁ in
    let here : m₂.1 ≡ (0, Some (desk (book_after m₁.0.opening h) h)) ∷ m₁.1 = ap (λ (m : Sat). m.1) sv.is in
    let same : found ≡ Some (desk (book_after m₁.0.opening h) h) =
    first_held found (Some (desk (book_after m₁.0.opening h) h)) (rest m₂.1) m₁.1 (sym there ∙ here) in
    some_desk d (desk (book_after m₀.0.opening h) h) (sym is
    ∙ (same ∙ ap (λ (b : Book). Some (desk (book_after b h) h)) opening))

pub held_is : (m₀ m₁ m₂ m₃ m₄ : Sat) (t : ℕ) (h : List Entry) (d : Desk) → length m₀.1 ≡ 0 → m₁ ≡ (drew m₀.0 t, m₀.1)
    → Served m₁ h m₂ → m₃ ≡ (m₂.0, (0, None) ∷ rest m₂.1) → m₄ ≡ (m₃.0, (0, Some d) ∷ rest m₃.1)
    → m₄ ≡ (served_view m₀.0 t h, (0, Some d) ∷ [])
held_is m₀ m₁ m₂ m₃ m₄ t h d empty e₁ sv e₃ e₄ =
    let v₂ : m₂.0 ≡ served_view m₀.0 t h = ap (λ (m : Sat). m.0) sv.is
    ∙ ap (λ (m : Sat). record m.0 { served = true; seen = h }) e₁ in
    let c₁ : m₁.1 ≡ [] = ap (λ (m : Sat). m.1) e₁ ∙ nothing_held m₀.1 empty in
    let c₂ : rest m₂.1 ≡ [] = ap (λ (m : Sat). rest m.1) sv.is ∙ c₁ in
    let v₃ : m₃.0 ≡ served_view m₀.0 t h = ap (λ (m : Sat). m.0) e₃ ∙ v₂ in
    let c₃ : rest m₃.1 ≡ [] = ap (λ (m : Sat). rest m.1) e₃ ∙ c₂ in
    e₄ ∙ (ap (λ (v : View). (v, (0, Some d) ∷ rest m₃.1)) v₃
    ∙ ap (λ (c : List (ℕ × Option Desk)). (served_view m₀.0 t h, (0, Some d) ∷ c)) c₃)

module _ (z id : ℕ) (v : View) (new document : ℕ) (op : Op) (d : Desk) (live : v.live ≡ true) (waits : v.waits
    ≡ true) (served : v.served ≡ true) (document-is : v.document ≡ document) (legal : Legal v.opening v.seen)
    (turns : AllTurnsBelow v.ticket v.seen) (next : new ≡ v.ticket + 1) (some-slot : 0 < z) (item : v.item
    ≡ drop (length v.seen) d.history) where
  -- whether the op was made or refused, the turn can be passed
  pub may_pass : (answer : Result Reply OutOfMemory)
      → Made v.ticket document op (desk (book_after v.opening v.seen) v.seen) d answer
      → Allows Keeps z id (
        v,
        (0, Some d)
            ∷ [],
      ) 1 (λ _. new) (λ _. Passes (step z 1 new 0 none) (v, (0, Some d) ∷ []) new)
  may_pass (Ok r) made =
      let b = book_after v.opening v.seen in let e : Entry = entry v.ticket document op r in
      let h : List Entry = v.seen ++ e ∷ [] in
      let is : d ≡ desk (book_after v.opening h) h = made.1
      ∙ ap (λ (x : Book). desk x h) (sym (book_after-append v.opening v.seen (e ∷ []))) in
      subst (λ (x : Desk). Allows Keeps z id (
        v,
        (0, Some x)
            ∷ [],
      ) 1 (λ _. new) (λ _. Passes (step z 1 new 0 none) (v, (0, Some x) ∷ []) new)) (sym is)
      (passes_at z id v new h live waits served next
      (grows_entry v e (item
      ∙ (ap (λ (x : Desk). drop (length v.seen) x.history) made.1 ∙ drop-append_seam v.seen (e ∷ []))) legal turns
      refl (sym document-is) made.0) some-slot)
  may_pass (Err x) made =
      subst (λ (x : Desk). Allows Keeps z id (
        v,
        (0, Some x)
            ∷ [],
      ) 1 (λ _. new) (λ _. Passes (step z 1 new 0 none) (v, (0, Some x) ∷ []) new)) (sym made)
      (passes_at z id v new v.seen live waits served next
      (grows_skip v (item ∙ (ap (λ (x : Desk). drop (length v.seen) x.history) made ∙ drop-length v.seen)) legal
      turns) some-slot)

-- an op that was made is the last entry of what the pass has seen, and is one more of its own
pub extends_if : (v₀ v : View) (document : ℕ) (op : Op) (d : Desk) (m₄ m₅ : Sat) → v.opening ≡ v₀.opening → v.own
    ≡ v₀.own → StartsWith v.seen v₀.seen → Legal v.opening v.seen → AllTurnsBelow v.ticket v.seen
    → v.item ≡ drop (length v.seen) d.history → m₄ ≡ (v, (0, Some d) ∷ []) → m₅ ≡ (passed m₄.0, [])
    → (answer : Result Reply OutOfMemory)
    → Made v.ticket document op (desk (book_after v.opening v.seen) v.seen) d answer
    → IfOk answer (λ r. Extends v₀.opening document op r v₀.own m₅.0.own v₀.seen m₅.0.seen)
extends_if v₀ v document op d m₄ m₅ opening own later legal turns item is₄ is₅ (Err x) made = tt
extends_if v₀ v document op d m₄ m₅ opening own later legal turns item is₄ is₅ (Ok r) made =
    let e : Entry = entry v.ticket document op r in let h : List Entry = v.seen ++ e ∷ [] in
    let one : v.item ≡ e ∷ [] = item
    ∙ (ap (λ (x : Desk). drop (length v.seen) x.history) made.1 ∙ drop-append_seam v.seen (e ∷ [])) in
    let now : m₅.0 ≡ passed v = ap (λ (m : Sat). m.0) is₅ ∙ ap (λ (m : Sat). passed m.0) is₄ in
    let mine : m₅.0.own ≡ v₀.own ++ e ∷ [] = ap (λ (x : View). x.own) now
    ∙ (ap (λ (x : List Entry). v.own ++ x) one ∙ ap (λ (x : List Entry). x ++ e ∷ []) own) in
    let saw : m₅.0.seen ≡ h = ap (λ (x : View). x.seen) now ∙ ap (λ (x : List Entry). v.seen ++ x) one in
    record {
      entry = e;
      document_is = refl;
      op_is = refl;
      reply_is = refl;
      own_is = mine;
      legal = subst (λ (b : Book). Legal b m₅.0.seen) opening
          (subst (λ (x : List Entry). Legal v.opening x) (sym saw)
          (LegalFrom-snoc v.opening 0 v.ticket v.seen e legal (omega arith) turns refl made.0));
      between = later.0;
      seen_is = saw ∙ ap (λ (x : List Entry). x ++ e ∷ []) later.1;
    }

-- whether the op was made or refused, what the pass has seen then has just its own entries of its document
whole_if : (own h : List Entry) (t document : ℕ) (op : Op) (b : Book) (d : Desk)
    (answer : Result Reply OutOfMemory) → entries_of document h ≡ own → Made t document op (desk b h) d answer
    → entries_of document (h ++ drop (length h) d.history) ≡ own ++ drop (length h) d.history
whole_if own h t document op b d (Ok r) mine made =
    let e : Entry = entry t document op r in
    let one : drop (length h) d.history ≡ e ∷ [] = ap (λ (x : Desk). drop (length h) x.history) made.1
    ∙ drop-append_seam h (e ∷ []) in
    ap (λ (x : List Entry). entries_of document (h ++ x)) one ∙ (entries_of-snoc_same document h e refl
    ∙ (ap (λ (x : List Entry). x ++ e ∷ []) mine ∙ ap (λ (x : List Entry). own ++ x) (sym one)))
whole_if own h t document op b d (Err error) mine made =
    let none : drop (length h) d.history ≡ [] = ap (λ (x : Desk). drop (length h) x.history) made ∙ drop-length h in
    ap (λ (x : List Entry). entries_of document (h ++ x)) none ∙ (ap (entries_of document) (append-nil h)
    ∙ (mine ∙ (sym (append-nil own) ∙ ap (λ (x : List Entry). own ++ x) (sym none))))

-- what is known once the desk has been put back
pub record Ready (m₀ m₄ : Sat) (t document : ℕ) (h : List Entry) (op : Op) (d : Desk)
    (answer : Result Reply OutOfMemory) : Type 0 where
  pub is : m₄ ≡ (noted_view m₀.0 t h d, (0, Some d) ∷ [])
  pub legal : Legal m₀.0.opening h
  pub turns : AllTurnsBelow t h
  pub later : StartsWith h m₀.0.seen
  pub own : entries_of m₀.0.document h ≡ m₀.0.own
  pub made : Made t document op (desk (book_after m₀.0.opening h) h) d answer

pub ready : (m₀ m₁ m₂ m₃ m₄ n₄ : Sat) (t document : ℕ) (h : List Entry) (op : Op) (d₀ d : Desk) (found : Option Desk)
    (answer : Result Reply OutOfMemory) → length m₀.1 ≡ 0 → m₁ ≡ (drew m₀.0 t, m₀.1) → Served m₁ h m₂ → m₂.1
    ≡ (0, found) ∷ rest m₂.1 → found ≡ Some d₀
    → m₃ ≡ (m₂.0, (0, None) ∷ rest m₂.1) → m₄ ≡ (m₃.0, (0, Some d) ∷ rest m₃.1) → n₄ ≡ (noting m₄.0 (held m₄.1), m₄.1)
    → Made t document op d₀ d answer → Ready m₀ n₄ t document h op d answer
ready m₀ m₁ m₂ m₃ m₄ n₄ t document h op d₀ d found answer empty e₁ sv there is e₃ e₄ e₅ made = record {
  is = e₅ ∙ ap (λ (m : Sat). (noting m.0 (held m.1), m.1)) (held_is m₀ m₁ m₂ m₃ m₄ t h d empty e₁ sv e₃ e₄);
  legal = subst (λ (b : Book). Legal b h) (ap (λ (m : Sat). m.0.opening) e₁) sv.legal;
  turns = subst (λ (k : ℕ). AllTurnsBelow k h) (ap (λ (m : Sat). m.0.ticket) e₁) sv.turns;
  later = subst (λ (x : List Entry). StartsWith h x) (ap (λ (m : Sat). m.0.seen) e₁) sv.later;
  own = sym (ap (λ (m : Sat). entries_of m.0.document h) e₁) ∙ (sv.own ∙ ap (λ (m : Sat). m.0.own) e₁);
  made = subst (λ (x : Desk). Made t document op x d answer) (taken_is m₀ m₁ m₂ t h found d₀ e₁ sv there is) made;
}

pub ready_passes : (z id new : ℕ) (m₀ m₄ : Sat) (t document : ℕ) (h : List Entry) (op : Op) (d : Desk)
    (answer : Result Reply OutOfMemory) → Ready m₀ m₄ t document h op d answer → m₀.0.live ≡ true → m₀.0.document
    ≡ document → new ≡ t + 1 → 0 < z
    → Allows Keeps z id m₄ 1 (λ _. new) (λ _. Passes (step z 1 new 0 none) m₄ new)
ready_passes z id new m₀ m₄ t document h op d answer r live document-is next some-slot =
    subst (λ (m : Sat). Allows Keeps z id m 1 (λ _. new) (λ _. Passes (step z 1 new 0 none) m new)) (sym r.is)
    (may_pass z id (noted_view m₀.0 t h d) new document op d live refl refl document-is r.legal r.turns next
    some-slot refl answer r.made)

pub ready_extends : (m₀ m₄ m₅ : Sat) (t document : ℕ) (h : List Entry) (op : Op) (d : Desk)
    (answer : Result Reply OutOfMemory) → Ready m₀ m₄ t document h op d answer → m₅ ≡ (passed m₄.0, [])
    → IfOk answer (λ r. Extends m₀.0.opening document op r m₀.0.own m₅.0.own m₀.0.seen m₅.0.seen)
ready_extends m₀ m₄ m₅ t document h op d answer r is₅ =
    extends_if m₀.0 (noted_view m₀.0 t h d) document op d m₄ m₅ refl refl r.later r.legal r.turns refl r.is is₅ answer
    r.made

pub ready_whole : (m₀ m₄ m₅ : Sat) (t document : ℕ) (h : List Entry) (op : Op) (d : Desk)
    (answer : Result Reply OutOfMemory) → Ready m₀ m₄ t document h op d answer → m₀.0.document ≡ document
    → m₅ ≡ (passed m₄.0, []) → entries_of document m₅.0.seen ≡ m₅.0.own
ready_whole m₀ m₄ m₅ t document h op d answer r document-is is₅ =
    let now : m₅.0 ≡ passed (noted_view m₀.0 t h d) = ap (λ (m : Sat). m.0) is₅ ∙ ap (λ (m : Sat). passed m.0) r.is in
    ap (λ (v : View). entries_of document v.seen) now
    ∙ (whole_if m₀.0.own h t document op (book_after m₀.0.opening h) d answer
    (ap (λ (k : ℕ). entries_of k h) (sym document-is) ∙ r.own) r.made ∙ sym (ap (λ (v : View). v.own) now))
