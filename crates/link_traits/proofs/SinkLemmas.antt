-- What several writes come to.
use Rattle.std.proofs.Common.{◌≡◌, ℕ, ◌+◌, ◌≤◌, ◌<◌, List, ◌++◌, take, drop, length, Option, Some, None, refl, ap, sym}
use Rattle.std.proofs.Common.{[], ◌∙◌, arith, append_assoc, append-nil, length-drop, min, Result, Ok, Err, OnOk, OnErr}
use Rattle.std.proofs.Math.Nat.{eq-or-lt_of_le}
use Rattle.std.proofs.Math.Seq.{take-add, take-append-add}
use Rattle.std.proofs.lemmas.List.{drop-drop, take-append-le, take_min}
use Rattle.std.proofs.Common.{inl, inr}
use Rattle.link_traits.specs.Counts.{one_more}
use Rattle.link_traits.specs.Sinks.{CountsZero, FailedOnce, NeverFailed, SinkTold, Took, TookPart, faults_written}
use Rattle.link_traits.specs.Sinks.{zeros_written}
use Rattle.link_traits.specs.declared.sink.WriteFault.{WriteFault}
use Rattle.link_traits.specs.declared.sink.WriteFault.TheVariants as write

-- so much of the text was taken, and the rest is left
pub record Wrote (old new : Option (List ℕ)) (text rest : List ℕ) : Type 0 where
  pub count : ℕ
  pub within : count ≤ length text
  pub left : rest ≡ drop count text
  pub taken : Took old new (take count text)

-- nothing
pub took-nothing : (taken : Option (List ℕ)) → Took taken taken []
took-nothing None = tt
took-nothing (Some bytes) = ap (λ (l : List ℕ). Some l) (sym (append-nil bytes))

-- two texts, one after the other
pub took-again : (a b c : Option (List ℕ)) (x y z : List ℕ) → Took a b x → Took b c y → z ≡ x ++ y → Took a c z
took-again None b c x y z p q e = tt
took-again (Some o) None c x y z p q e = absurd (no p)
  where
    no : None ≡ Some (o ++ x) → ⊥
    no h = cc
took-again (Some o) (Some m) c x y z p q e = q
    ∙ ap (λ (l : List ℕ). let r : Option (List ℕ) = Some (l ++ y) in r) (same p)
    ∙ ap (λ (l : List ℕ). let r : Option (List ℕ) = Some l in r) (append_assoc o x y
    ∙ ap (λ (l : List ℕ). o ++ l) (sym e))
  where
    same : {m n : List ℕ} → Some m ≡ Some n → m ≡ n
    same h = cc

-- a write of the next bytes
pub wrote-more : (a b c : Option (List ℕ)) (text rest : List ℕ) (n : ℕ) → Wrote a b text rest → n ≤ length rest
    → Took b c (take n rest) → Wrote a c text (drop n rest)
wrote-more a b c text rest n w le took = record {
  count = w.count + n;
  within = omega (arith, ap length w.left, length-drop w.count text, w.within);
  left = ap (λ (l : List ℕ). drop n l) w.left ∙ drop-drop n w.count text;
  taken = took-again a b c (take w.count text) (take n rest) (take (w.count + n) text) w.taken took
      (take-add w.count n text ∙ ap (λ (l : List ℕ). take w.count text ++ take n l) (sym w.left));
}

-- the first text whole, and then a part of the second
pub part-after : (a b c : Option (List ℕ)) (x y : List ℕ) → Took a b x → TookPart b c y → TookPart a c (x ++ y)
part-after a b c x y took part = (
  length x + part.0,
  took-again a b c x (take part.0 y) (take (length x + part.0) (x ++ y)) took part.1
      (take-append-add x y part.0),
)

-- a part of the first text
pub part-before : (a b : Option (List ℕ)) (x y : List ℕ) → TookPart a b x → TookPart a b (x ++ y)
part-before None b x y part = (0, tt)
part-before (Some o) b x y part =
    (min part.0 (length x), part.1 ∙ ap (λ (l : List ℕ). let r : Option (List ℕ) = Some (o ++ l) in r) (fits part.0))
  where
    fits : (n : ℕ) → take n x ≡ take (min n (length x)) (x ++ y)
    fits n = sym (take_min n x) ∙ sym (take-append-le (min n (length x)) x y (omega arith))

-- the same of what a call answered
pub ok-after : {A E : Type 0} (r : Result A E) (a b c : Option (List ℕ)) (x y : List ℕ) → Took a b x
    → OnOk r (Took b c y) → OnOk r (Took a c (x ++ y))
ok-after (Ok u) a b c x y took more = took-again a b c x y (x ++ y) took more refl
ok-after (Err e) a b c x y took more = tt

pub err-after : {A E : Type 0} (r : Result A E) (a b c : Option (List ℕ)) (x y : List ℕ) → Took a b x
    → OnErr r (TookPart b c y) → OnErr r (TookPart a c (x ++ y))
err-after (Ok u) a b c x y took part = tt
err-after (Err e) a b c x y took part = part-after a b c x y took part

-- ---- the counts

-- the count of answers 0 is as it was where something was taken
pub zeros-still : {E : Type 0} (before now n : ℕ) (piece : List ℕ) → 0 < n
    → CountsZero {E = E} before now (Ok n) piece → now ≡ before
zeros-still before now n piece some counts = elim (eq-or-lt_of_le counts.later) [
  | inl same ↦ sym same
  | inr less ↦ let none : n ≡ 0 = cc ((counts.cause less).0) in absurd (omega (arith, some, none))
]

-- and where the sink failed
pub zeros-failed : {E : Type 0} (before now : ℕ) (e : E) (piece : List ℕ) → CountsZero before now (Err e) piece
    → now ≡ before
zeros-failed before now e piece counts = elim (eq-or-lt_of_le counts.later) [
  | inl same ↦ sym same
  | inr less ↦ absurd (cc ((counts.cause less).0))
]

-- where a text was written whole, no write failed
pub written-quiet : {A : Type 0} (r : Result A WriteFault) (old new : SinkTold)
    → new.faults ≡ faults_written old.faults r → new.zeros ≡ zeros_written old.zeros r → OnOk r (NeverFailed old new)
written-quiet (Ok done) old new faults zeros = (faults, zeros)
written-quiet (Err error) old new faults zeros = tt

-- and where it was not, one did
pub written-failed : {A : Type 0} (r : Result A WriteFault) (old new : SinkTold)
    → new.faults ≡ faults_written old.faults r → new.zeros ≡ zeros_written old.zeros r → OnErr r (FailedOnce old new)
written-failed (Ok done) old new faults zeros = tt
written-failed (Err write.Fault) old new faults zeros = inl (faults, zeros)
written-failed (Err write.TookNothing) old new faults zeros = inr (faults, zeros)

-- a failure after none
pub failed-later : (old mid new : SinkTold) → NeverFailed old mid → FailedOnce mid new → FailedOnce old new
failed-later old mid new quiet failed = elim failed [
  | inl is ↦ inl (is.0 ∙ ap one_more quiet.0, is.1 ∙ quiet.1)
  | inr is ↦ inr (is.0 ∙ quiet.0, is.1 ∙ ap one_more quiet.1)
]

-- none after none
pub quiet-later : (old mid new : SinkTold) → NeverFailed old mid → NeverFailed mid new → NeverFailed old new
quiet-later old mid new one two = (two.0 ∙ one.0, two.1 ∙ one.1)
