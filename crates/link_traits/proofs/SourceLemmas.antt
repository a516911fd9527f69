-- What several reads come to.
use Rattle.std.proofs.Common.{◌≡◌, ◌≤◌, ◌+◌, ◌-◌, ℕ, List, ◌++◌, length, take, drop, Option, Some, None, refl, ap}
use Rattle.std.proofs.Common.{[], sym, subst, ◌∙◌, append_assoc, append-nil, arith, length-append}
use Rattle.std.proofs.lemmas.List.{drop-drop, length-take-le, take-append-drop, take_at}
use Rattle.link_traits.specs.Sources.{Gave, GaveAtMost, GaveJust, IsAtEnd}

-- what a reading loop keeps: the buffer's size, and the text that was given so far, within the limit
pub record Reading (buffer : ℕ) (old new : Option (List ℕ)) (text : List ℕ) (most before now : ℕ) : Type 0 where
  pub size : buffer ≡ 65536
  pub gave : Gave old new text
  pub within : length text ≤ most
  pub quiet : now ≡ before

-- nothing
pub gave-nothing : (left : Option (List ℕ)) → Gave left left []
gave-nothing None = tt
gave-nothing (Some rest) = (rest, refl, refl)

-- two texts, one after the other
pub gave-again : (a b c : Option (List ℕ)) (x y z : List ℕ) → Gave a b x → Gave b c y → z ≡ x ++ y → Gave a c z
gave-again None b c x y z p q e = tt
gave-again (Some o) None c x y z p q e = absurd (no p.1)
  where
    no : None ≡ Some p.0 → ⊥
    no h = cc
gave-again (Some o) (Some m) c x y z p q e = (
  q.0,
  q.1,
  p.2 ∙ ap (λ (l : List ℕ). x ++ l) (sym (same p.1) ∙ q.2) ∙ sym (append_assoc x y q.0)
      ∙ ap (λ (l : List ℕ). l ++ q.0) (sym e),
)
  where
    same : {m n : List ℕ} → Some m ≡ Some n → m ≡ n
    same h = cc

-- a read of all the bytes that the limit lacks, and one more
pub gave-just : (a b c : Option (List ℕ)) (x y : List ℕ) (most : ℕ) → Gave a b x → length x ≤ most → Gave b c y
    → length y ≡ most + 1 - length x → GaveJust a c (most + 1)
gave-just a b c x y most before within more count = record {
  given = x ++ y;
  gave = gave-again a b c x y (x ++ y) before more refl;
  just = omega (arith, length-append x y);
}

-- a read of fewer
pub gave-at_most : (a b c : Option (List ℕ)) (x y : List ℕ) (most : ℕ) → Gave a b x → Gave b c y
    → length x + length y ≤ most → GaveAtMost a c most
gave-at_most a b c x y most before more within = record {
  given = x ++ y;
  gave = gave-again a b c x y (x ++ y) before more refl;
  within = omega (arith, length-append x y);
}

-- the bytes at the front of a buffer, and those after them, are what was left
pub gave-front : (at n : ℕ) (text left rest front more : List ℕ) → drop at text ≡ left → rest ≡ drop at text
    → n ≤ length rest → front ≡ take n rest → left ≡ take n (front ++ more) ++ drop (at + n) text
gave-front at n text left rest front more e whole within same =
    let long : length front ≡ n = ap length same ∙ length-take-le n rest within in
    sym e ∙ sym whole ∙ rw (
      take_at front more n long,
      same,
      ← drop-drop n at text,
      ← whole,
    ) (sym (take-append-drop n rest))

-- where it is told what was left, all that was given to the end is that
pub gave-all : (bytes given : List ℕ) (old new : Option (List ℕ)) → old ≡ Some bytes → Gave old new given → IsAtEnd new
    → given ≡ bytes
gave-all bytes given None new tells gave end = cc
gave-all bytes given (Some left) new tells gave end =
    let nothing : gave.0 ≡ [] = subst (λ (o : Option (List ℕ)). IsAtEnd o) gave.1 end in
    let all : left ≡ given = gave.2 ∙ ap (λ (l : List ℕ). given ++ l) nothing ∙ append-nil given in
    let same : left ≡ bytes = cc (tells) in
    sym all ∙ same

-- and what was given is no longer than that
pub gave-short : (bytes given : List ℕ) (old new : Option (List ℕ)) → old ≡ Some bytes → Gave old new given
    → length given ≤ length bytes
gave-short bytes given None new tells gave = cc
gave-short bytes given (Some left) new tells gave =
    let same : left ≡ bytes = cc (tells) in
    omega (arith, ap length same, ap length gave.2, length-append given gave.0)
