-- What a text is read as is one.
use Rattle.std.proofs.Common.{◌≡◌, ◌<◌, inl, inr, ℕ, zero, suc, List, [], ◌∷◌, take, refl, ap}
use Rattle.std.proofs.Common.{subst, arith, Some}
use Rattle.std.proofs.lemmas.Bool.{cases_order}
use Rattle.std.specs.List.{slice_get}
use Rattle.book_calls.specs.declared.entry.Entry.{Entry}
use Rattle.audit_text.specs.OneHistory.{HasOneHistory}
use Rattle.audit_text.specs.Entries.{IsLineOf}
use Rattle.audit_text.specs.Histories.{AreLinesOf, FailsAfter, HasFault, Holds}
use Rattle.audit_text.specs.Laws.{ReadsOnce}
use Rattle.audit_text.specs.declared.history.Reading.TheVariants.{Entries, Fault}
use Rattle.audit_text.proofs.OneLemmas.{one-lines, one-text}

-- each of the lines is that of some entry
line-at : (lines : List (List ℕ)) (history : List Entry) (count : ℕ) (text : List ℕ) → AreLinesOf lines history
    → slice_get lines count ≡ Some text → (e : Entry) × IsLineOf text e
line-at [] history count text are at = absurd (cc)
line-at (one ∷ lines) [] count text are at = absurd are
line-at (one ∷ lines) (e ∷ history) zero text are at =
    let same : one ≡ text = cc in (e, subst (λ (t : List ℕ). IsLineOf t e) same are.0)
line-at (one ∷ lines) (e ∷ history) (suc count) text are at = line-at lines history count text are.1 at

-- a line of a front is that of the whole
front-at : (lines : List (List ℕ)) (count more : ℕ) (text : List ℕ) → count < more → slice_get lines count ≡ Some text
    → slice_get (take more lines) count ≡ Some text
front-at [] count more text below at = absurd (cc)
front-at (one ∷ lines) count zero text below at = absurd (omega (arith, below))
front-at (one ∷ lines) zero (suc more) text below at = at
front-at (one ∷ lines) (suc count) (suc more) text below at = front-at lines count more text (omega (arith, below)) at

-- a text that holds a history has no fault
held-fails : (play : List ℕ) (history : List Entry) (number : ℕ) → Holds play history → HasFault play number → ⊥
held-fails play history zero held fault = fault held.before held.lines held.has
held-fails play history (suc count) held fault =
    let same = one-lines play held.before fault.before held.lines fault.lines held.has fault.has in
    let one = line-at fault.lines history count fault.text
    (subst (λ (l : List (List ℕ)). AreLinesOf l history) same held.entries) fault.next in
    fault.bad one.0 one.1

-- a line that fails is behind none that does
fails-behind : (play : List ℕ) (count more : ℕ) → FailsAfter play count → FailsAfter play more → count < more → ⊥
fails-behind play count more first later below =
    let same = one-lines play first.before later.before first.lines later.lines first.has later.has in
    let one = line-at (take more later.lines) later.good count first.text later.entries
    (front-at later.lines count more first.text below
    (subst (λ (l : List (List ℕ)). slice_get l count ≡ Some first.text) same first.next)) in
    first.bad one.0 one.1

one-fault : (play : List ℕ) (number other : ℕ) → HasFault play number → HasFault play other → number ≡ other
one-fault play zero zero one two = refl
one-fault play zero (suc other) one two = absurd (one two.before two.lines two.has)
one-fault play (suc number) zero one two = absurd (two one.before one.lines one.has)
one-fault play (suc number) (suc other) one two = elim (cases_order number other) [
  | inl x ↦ ap (λ (n : ℕ). suc n) x
  | inr y ↦ elim y [
    | inl x ↦ absurd (fails-behind play number other one two x)
    | inr x ↦ absurd (fails-behind play other number two one x)
  ]
]

pub reads-once : HasOneHistory → ReadsOnce
reads-once law play (Entries history) (Entries other) one two =
    ap (λ (h : List Entry). Entries h) (one-text law play history other one two)
reads-once law play (Entries history) (Fault number) one two = absurd (held-fails play history number one two)
reads-once law play (Fault number) (Entries history) one two = absurd (held-fails play history number two one)
reads-once law play (Fault number) (Fault other) one two =
    ap (λ (n : ℕ). Fault n) (one-fault play number other one two)
