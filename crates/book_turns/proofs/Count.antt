-- How many entries a history has: those of each document, added up.
use Rattle.std.proofs.Common.{◌≡◌, ◌≢◌, ℕ, zero, suc, ◌+◌, ◌<◌, ◌≤◌, Bool, true, false, cond, eqb, List, [], ◌∷◌}
use Rattle.std.proofs.Common.{length, sym, ap, ◌∙◌, arith, ne_eqb}
use Rattle.std.specs.List.{All, count_by, sum_by}
use Rattle.std.proofs.lemmas.List.Sums.{sum_by-cons}
use Rattle.std.proofs.lemmas.List.Elements.{All-head, All-tail, All-weaker}
use mathlib.Core.Logic.{dite}
use native.Mathlib.Decide.{ℕ_discrete}
use mathlib.Core.Option.{some, some-injective, some-ne-none}
use lib.ListN.{get_elem?}
use Rattle.value_lemmas.proofs.Tests.{eqb-comm}
use Rattle.book_calls.specs.declared.book.Book.{Book}
use Rattle.book_calls.specs.declared.entry.Entry.{Entry}
use Rattle.book_calls.specs.Book.{after}
use Rattle.book_calls.specs.Entries.{AllTurnsBelow, Legal, LegalFrom, book_after, entries_of}
use Rattle.book_turns.specs.Private.Sums.{one, total}
use Rattle.book_turns.specs.Laws.{TurnsArePlaces}
use Rattle.book_turns.proofs.Sums.{sum-total, total-alike, total-plus, total-same, total-zero}
use Rattle.book_turns.specs.Passes.{calls_of, is_of, opening_of, own_of}
use Rattle.book_turns.specs.declared.pass.TurnPass.{TurnPass}

-- turns that rise from t on, below n, leave room for each entry
turns_fit : (b : Book) (t n : ℕ) (h : List Entry) → LegalFrom b t h → AllTurnsBelow n h → t ≤ n → t + length h ≤ n
turns_fit b t n [] legal below le = omega arith
turns_fit b t n (e ∷ es) legal below le = let l₀ = legal.0 in let b₀ = below.0 in let r =
    turns_fit (after b e.op) (e.turn + 1) n es legal.2 below.1 (omega arith) in omega arith

-- where there are as many turns as entries, entry i has turn number i
turns_are : (b : Book) (t n : ℕ) (h : List Entry) → n ≡ t + length h → LegalFrom b t h → AllTurnsBelow n h
    → (i : ℕ) (e : Entry) → get_elem? h i ≡ some e → e.turn ≡ t + i
turns_are b t n [] is legal below i e at = absurd (some-ne-none e (sym at))
turns_are b t n (x ∷ xs) is legal below zero e at =
    let l₀ = legal.0 in let b₀ = below.0 in let r =
    turns_fit (after b x.op) (x.turn + 1) n xs legal.2 below.1 (omega arith) in
    let same : x.turn ≡ e.turn = ap (λ (y : Entry). y.turn) (some-injective x e at) in omega arith
turns_are b t n (x ∷ xs) is legal below (suc i) e at =
    let l₀ = legal.0 in let b₀ = below.0 in let r =
    turns_fit (after b x.op) (x.turn + 1) n xs legal.2 below.1 (omega arith) in
    let here : x.turn ≡ t = omega arith in
    let q = turns_are (after b x.op) (x.turn + 1) n xs (omega arith) legal.2 below.1 i e at in omega arith

one-more : (b : Bool) (e : Entry) (es : List Entry) → length (cond b (e ∷ es) es) ≡ one b + length es
one-more true e es = omega arith
one-more false e es = omega arith

abbrev mine : List Entry → TurnPass → ℕ
mine h p = length (entries_of p.document h)

one-mine : (e : Entry) (es : List Entry) (p : TurnPass) → mine (e ∷ es) p ≡ one (is_of e.document p) + mine es p
one-mine e es p = one-more (eqb e.document p.document) e (entries_of p.document es)
    ∙ ap (λ (b : Bool). one b + mine es p) (eqb-comm e.document p.document)

entries-counted : (ps : List TurnPass) (h : List Entry) → ((d : ℕ) → count_by (is_of d) ps ≤ 1)
    → All (λ e. 0 < count_by (is_of e.document) ps) h → total (mine h) ps ≡ length h
entries-counted ps [] apart named = total-zero ps
entries-counted ps (e ∷ es) apart named =
    let P : Entry → Type 0 = λ x. 0 < count_by (is_of x.document) ps in
    let some-there : 0 < count_by (is_of e.document) ps = All-head P e es named in
    let here : count_by (is_of e.document) ps ≡ total (λ (p : TurnPass). one (is_of e.document p)) ps =
    sum-total (λ (p : TurnPass). one (is_of e.document p)) ps in
    let split = total-plus (λ (p : TurnPass). one (is_of e.document p)) (mine es) ps in
    let same = total-same (mine (e ∷ es)) (λ (p : TurnPass). one (is_of e.document p) + mine es p) ps (one-mine e es) in
    omega (arith, apart e.document, entries-counted ps es apart (All-tail P e es named))

all-below : (n : ℕ) (h : List Entry) → All (λ e. e.turn < n) h → AllTurnsBelow n h
all-below n [] all = tt
all-below n (e ∷ es) all = let P : Entry → Type 0 = λ x. x.turn < n in
    (All-head P e es all, all-below n es (All-tail P e es all))

-- what holds of each first pass holds of one, where there is one
first-of : (P : TurnPass → Type 0) (ps : List TurnPass) → All (λ p. p.document ≡ 4294967295 → P p) ps
    → 0 < count_by (is_of 4294967295) ps → (p : TurnPass) × P p
first-of P [] all some-there = absurd (omega arith)
first-of P (p ∷ ps) all some-there =
    let Q : TurnPass → Type 0 = λ q. q.document ≡ 4294967295 → P q in
    dite (ℕ_discrete p.document 4294967295) (λ (is : p.document ≡ 4294967295). (p, All-head Q p ps all is))
    (λ (ne : p.document ≢ 4294967295).
    let z : one (eqb p.document 4294967295) ≡ 0 = ap one (ne_eqb p.document 4294967295 ne) in
    first-of P ps (All-tail Q p ps all)
    (omega (arith, sum_by-cons (λ (q : TurnPass). cond (is_of 4294967295 q) 1 0) p ps)))

lengths : (ps : List TurnPass) (h : List Entry) → All (λ p. entries_of p.document h ≡ own_of p) ps
    → All (λ p. mine h p ≡ length (own_of p)) ps
lengths ps h own =
    let P : TurnPass → Type 0 = λ p. entries_of p.document h ≡ own_of p in let Q : TurnPass → Type 0 = λ p. mine h p
    ≡ length (own_of p) in
    All-weaker P Q (λ p e. ap (λ (l : List Entry). length l) e) ps own

pub turns-are-places : TurnsArePlaces
turns-are-places passes book history whole some-first none-refused i e at =
    let P : TurnPass → Type 0 = λ p. Legal (opening_of p) history × (book ≡ book_after (opening_of p) history) in
    let first = first-of P passes whole.legal some-first in
    let own = total-alike (mine history) (λ (p : TurnPass). length (own_of p)) passes
    (lengths passes history whole.own) in
    let made = total-alike calls_of (λ (p : TurnPass). length (own_of p)) passes none-refused in
    let calls = sum-total calls_of passes in
    let entries = entries-counted passes history whole.apart whole.named in
    let n : ℕ = sum_by calls_of passes in
    let r = turns_are (opening_of first.0) 0 n history (omega arith) first.1.0 (all-below n history whole.turns) i e
    at in omega arith
