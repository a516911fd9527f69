-- How far a text was compared with another.
use Rattle.std.proofs.Common.{◌≡◌, ◌≢◌, ◌≤◌, ◌<◌, ◌+◌, ℕ, zero, suc, Bool, true, false, List, [], ◌∷◌, ◌++◌}
use Rattle.std.proofs.Common.{length, take, drop, get_or, refl, ap, sym, subst, ◌∙◌, arith, add-one}
use Rattle.std.proofs.Common.{append_assoc, length-append, length-take, length-drop, Option, Some, None}
use Rattle.std.proofs.Math.Seq.{get_or-append_seam, take-add, take-suc}
use Rattle.std.proofs.lemmas.Bool.Decides.{Decides-eqb}
use Rattle.std.proofs.lemmas.List.{append-nil, get_or-take, take_all, take_at}
use Rattle.std.proofs.lemmas.Option.{same_Some, slice_get-get_or, slice_get_past}
use Rattle.std.specs.List.{slice_get}
use Rattle.std.specs.Option.{is_some}
use Rattle.std.specs.Prelude.{◌==◌, if◌then◌else◌, IsSome}
use Rattle.link_traits.specs.Counts.{one_more}
use Rattle.link_traits.specs.Sinks.{Took, TookPart}
use Rattle.audit_replay.specs.Differences.{AreCompared, DifferAt}
use Rattle.audit_replay.specs.Private.Comparing.{AreSameFront, Compared, IsComparing, difference, difference_of}
use Rattle.audit_replay.specs.Private.Comparing.{sealed, taken, taken_of, told_of}

pub found-none : (found : Option ℕ) → is_some found ≡ false → found ≡ None
found-none None is = refl
found-none (Some byte) is = absurd (cc)

-- ---- what is taken

-- a byte more of a text
take-more : (text : List ℕ) (n : ℕ) → n < length text → take (n + 1) text ≡ take n text ++ get_or text n 0 ∷ []
take-more text n below = ap (λ (m : ℕ). take m text) (add-one n) ∙ take-suc text n 0 below

-- the front of what is left follows the front
pub taken-more : (expected piece : List ℕ) (at n : ℕ) (found : Option ℕ) → found ≡ None
    → take n piece ≡ take n (drop at expected) → taken expected (at + n) found ≡ taken expected at found ++ take n piece
taken-more expected piece at n found none same =
    ap (taken expected (at + n)) none ∙ append-nil (take (at + n) expected) ∙ take-add at n expected
    ∙ ap (λ (l : List ℕ). take at expected ++ l) (sym same)
    ∙ ap (λ (l : List ℕ). l ++ take n piece) (sym (append-nil (take at expected)))
    ∙ ap (λ (f : Option ℕ). taken expected at f ++ take n piece) (sym none)

-- so does the first byte that is not equal
pub taken-other : (expected piece : List ℕ) (at n : ℕ) (found : Option ℕ) → found ≡ None
    → take n piece ≡ take n (drop at expected) → n < length piece
    → taken expected (at + n) (Some (get_or piece n 0)) ≡ taken expected at found ++ take (n + 1) piece
taken-other expected piece at n found none same below =
    ap (λ (l : List ℕ). l ++ get_or piece n 0 ∷ [])
    (sym (append-nil (take (at + n) expected)) ∙ taken-more expected piece at n None refl same)
    ∙ append_assoc (taken expected at None) (take n piece) (get_or piece n 0 ∷ [])
    ∙ ap (λ (l : List ℕ). taken expected at None ++ l) (sym (take-more piece n below))
    ∙ ap (λ (f : Option ℕ). taken expected at f ++ take (n + 1) piece) (sym none)

get-drop : (text : List ℕ) (at n : ℕ) → slice_get (drop at text) n ≡ slice_get text (at + n)
get-drop text zero n = let sum : n ≡ 0 + n = omega arith in ap (slice_get text) sum
get-drop [] (suc at) n = refl
get-drop (byte ∷ text) (suc at) n =
    let sum : suc (at + n) ≡ suc at + n = omega arith in
    get-drop text at n ∙ ap (slice_get (byte ∷ text)) sum

pub other-found : (expected piece : List ℕ) (at n faults : ℕ) → at ≤ length expected
    → AreSameFront piece (drop at expected) n → n < length piece
    → IsComparing expected (at + n) (Some (get_or piece n 0)) faults
other-found expected piece at n faults within same below = record {
  within = omega (arith, within, same.behind, length-drop at expected);
  other = λ is. same.differs below
      (slice_get-get_or piece n 0 below ∙ sym is ∙ sym (get-drop expected at n));
  failed = λ _. refl;
}

-- ---- what is told

pub told-more : (expected front more back : List ℕ) → back ≡ front ++ more
    → Some (sealed expected ++ back) ≡ Some ((sealed expected ++ front) ++ more)
told-more expected front more back is =
    ap (λ (l : List ℕ). let o : Option (List ℕ) = Some (sealed expected ++ l) in o) is
    ∙ ap (λ (l : List ℕ). let o : Option (List ℕ) = Some l in o) (sym (append_assoc (sealed expected) front more))

-- what is told opens in one way
record Opens (one other front back : List ℕ) : Type 0 where
  pub sealed_is : one ≡ other
  pub rest_is : front ≡ back

opened : (one other front back : List ℕ) → sealed one ++ front ≡ sealed other ++ back → Opens one other front back
opened [] [] front back is = record { sealed_is = refl; rest_is = cc }
opened [] (byte ∷ other) front back is = absurd (cc)
opened (byte ∷ one) [] front back is = absurd (cc)
opened (byte ∷ one) (code ∷ other) front back is =
    let tail : sealed one ++ front ≡ sealed other ++ back = cc in
    let head : byte ≡ code = cc in
    let more = opened one other front back tail in
    record {
      sealed_is = ap (λ (b : ℕ). b ∷ one) head ∙ ap (λ (l : List ℕ). code ∷ l) more.sealed_is;
      rest_is = more.rest_is;
    }

-- ---- where texts differ

length-front : (text : List ℕ) (at : ℕ) → at ≤ length text → length (take at text) ≡ at
length-front text at within = omega (arith, within, length-take at text)

-- a text that begins with what was taken, another byte last
other-differs : (expected text : List ℕ) (at n byte faults : ℕ) → IsComparing expected at (Some byte) faults
    → taken expected at (Some byte) ≡ take n text → DifferAt text expected at
other-differs expected text at n byte faults is same =
    let front : length (take at expected) ≡ at = length-front expected at is.within in
    let size : length (take n text) ≡ at + 1 =
    sym (ap (λ (l : List ℕ). length l) same) ∙ length-append (take at expected) (byte ∷ []) ∙ omega (arith, front) in
    let further : at < n = omega (arith, size, length-take n text) in
    let within : at < length text = omega (arith, size, length-take n text) in
    record {
      front = sym (take-take at n text (omega (arith, further)))
          ∙ ap (take at) (sym same) ∙ take_at (take at expected) (byte ∷ []) at front;
      differs = λ is_same. is.other (sym is_same ∙ slice_get-get_or text at 0 within
          ∙ ap (λ (b : ℕ). let o : Option ℕ = Some b in o)
          (sym (get_or-take n text at 0 further) ∙ ap (λ (l : List ℕ). get_or l at 0) (sym same)
          ∙ subst (λ (m : ℕ). get_or (take at expected ++ byte ∷ []) m 0 ≡ byte) front
          (get_or-append_seam (take at expected) byte [] 0)));
    }
  where
    take-take : (a b : ℕ) (l : List ℕ) → a ≤ b → take a (take b l) ≡ take a l
    take-take zero b l le = refl
    take-take (suc a) zero l le = absurd (omega (arith, le))
    take-take (suc a) (suc b) [] le = refl
    take-take (suc a) (suc b) (x ∷ l) le = ap (λ (m : List ℕ). x ∷ m) (take-take a b l (omega (arith, le)))

-- a text that ends before the other does
ends-before : (expected : List ℕ) (at : ℕ) → at ≤ length expected → at ≢ length expected
    → DifferAt (take at expected) expected at
ends-before expected at within short =
    let front : length (take at expected) ≡ at = length-front expected at within in
    record {
      front = take_all at (take at expected) (omega (arith, front));
      differs = λ is. let none : None ≡ slice_get expected at =
          sym (slice_get_past (take at expected) at (omega (arith, front))) ∙ is in
          let some : None ≡ Some (get_or expected at 0) =
          none ∙ slice_get-get_or expected at 0 (omega (arith, within, short)) in cc;
    }

pub compared-whole : (expected text : List ℕ) (at faults : ℕ) (found : Option ℕ) → IsComparing expected at found faults
    → taken expected at found ≡ text → AreCompared text expected (difference (length expected) at found)
compared-whole expected text at faults (Some byte) is same =
    other-differs expected text at (length text) byte faults is (same ∙ sym (take_all (length text) text (omega arith)))
compared-whole expected text at faults None is same = by (at == length expected) refl
  where
    taken_is : take at expected ≡ text
    taken_is = sym (append-nil (take at expected)) ∙ same

    by : (b : Bool) → (at == length expected) ≡ b
        → AreCompared text expected (if b then None else Some at)
    by true is_all = sym taken_is
        ∙ take_all at expected (omega (arith, (Decides-eqb at (length expected)).0 is_all))
    by false is_less = subst (λ (l : List ℕ). DifferAt l expected at) taken_is
        (ends-before expected at is.within
        (λ is_all. let both : false ≡ true = sym is_less ∙ (Decides-eqb at (length expected)).1 is_all in cc))

pub compared-part : (expected text : List ℕ) (at faults n : ℕ) (found : Option ℕ)
    → IsComparing expected at found faults → taken expected at found ≡ take n text → IsSome found
    → AreCompared text expected (difference (length expected) at found)
compared-part expected text at faults n (Some byte) is same some = other-differs expected text at n byte faults is same
compared-part expected text at faults n None is same some = absurd (cc)

-- ---- a text that was written

-- what was taken since the sink was made
taken-since : (expected text : List ℕ) (old new : Compared)
    → old ≡ record { expected = expected; at = 0; found = None; faults = 0 }
    → Took (Some (told_of old)) (Some (told_of new)) text → Opens new.expected expected (taken_of new) text
taken-since expected text old new made took =
    opened new.expected expected (taken_of new) text
    (same_Some _ _ took ∙ ap (λ (s : Compared). told_of s ++ text) made
    ∙ append_assoc (sealed expected) (taken expected 0 None) text)

pub differs-whole : (expected text : List ℕ) (old new : Compared) (answer : Option ℕ)
    → old ≡ record { expected = expected; at = 0; found = None; faults = 0 }
    → Took (Some (told_of old)) (Some (told_of new)) text → IsComparing new.expected new.at new.found new.faults
    → answer ≡ difference_of new → AreCompared text expected answer
differs-whole expected text old new answer made took is answered =
    let opens = taken-since expected text old new made took in
    subst (λ (e : List ℕ). AreCompared text e answer) opens.sealed_is
    (subst (AreCompared text new.expected) (sym answered)
    (compared-whole new.expected text new.at new.faults new.found is opens.rest_is))

pub differs-part : (expected text : List ℕ) (old new : Compared) (answer : Option ℕ)
    → old ≡ record { expected = expected; at = 0; found = None; faults = 0 }
    → TookPart (Some (told_of old)) (Some (told_of new)) text → IsComparing new.expected new.at new.found new.faults
    → new.faults ≡ one_more old.faults → answer ≡ difference_of new → AreCompared text expected answer
differs-part expected text old new answer made took is rose answered =
    let opens = taken-since expected (take took.0 text) old new made took.1 in
    let first : old.faults ≡ 0 = ap (λ (s : Compared). s.faults) made in
    subst (λ (e : List ℕ). AreCompared text e answer) opens.sealed_is
    (subst (AreCompared text new.expected) (sym answered)
    (compared-part new.expected text new.at new.faults took.0 new.found is opens.rest_is
    (is.failed (omega (arith, first, rose)))))
