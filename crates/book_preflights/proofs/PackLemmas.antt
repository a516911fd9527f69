-- Texts that stand one behind the other: where each of them is, and what one more makes of them.
use Rattle.std.proofs.Common.{◌≡◌, ℕ, ◌<◌, ◌≤◌, ◌+◌, ◌-◌, List, [], ◌∷◌, ◌++◌, length, take, drop, get_or, refl, ap}
use Rattle.std.proofs.Common.{arith, suc, zero}
use Rattle.std.proofs.Math.Seq.{drop-append_seam, take-length}
use Rattle.std.specs.List.{slice_get}
use Rattle.std.specs.Prelude.{Some}
use Rattle.value_lemmas.proofs.Lists.{take-drop-append}
use Rattle.book_preflights.specs.Private.Packs.{AreEnds, texts_of}

-- there are as many texts as ends
pub length_texts : (bytes : List ℕ) (start : ℕ) (ends : List ℕ) → length (texts_of bytes start ends) ≡ length ends
length_texts bytes start [] = refl
length_texts bytes start (end ∷ ends) = omega (arith, length_texts bytes end ends)

-- the bytes don't end before the first text starts
start-within : (start last : ℕ) (ends : List ℕ) → AreEnds start last ends → start ≤ last
start-within start last [] are = omega arith
start-within start last (end ∷ ends) are = omega (arith, are.0, start-within end last ends are.1)

-- a text doesn't end before it starts, nor behind the bytes
pub text-within : (start last : ℕ) (ends : List ℕ) (i : ℕ) → AreEnds start last ends → i < length ends
    → (get_or (start ∷ ends) i 0 ≤ get_or ends i 0) × (get_or ends i 0 ≤ last)
text-within start last [] i are less = absurd (omega arith)
text-within start last (end ∷ ends) zero are less = (are.0, start-within end last ends are.1)
text-within start last (end ∷ ends) (suc i) are less = text-within end last ends i are.1 (omega arith)

-- where the text at an index is
pub text-at : (bytes : List ℕ) (start : ℕ) (ends : List ℕ) (i : ℕ) → i < length ends
    → slice_get (texts_of bytes start ends) i
    ≡ Some (take (get_or ends i 0 - get_or (start ∷ ends) i 0) (drop (get_or (start ∷ ends) i 0) bytes))
text-at bytes start [] i less = absurd (omega arith)
text-at bytes start (end ∷ ends) zero less = refl
text-at bytes start (end ∷ ends) (suc i) less = text-at bytes end ends i (omega arith)

-- one end more
pub ends-more : (start last more : ℕ) (ends : List ℕ) → AreEnds start last ends
    → AreEnds start (last + more) (ends ++ (last + more) ∷ [])
ends-more start last more [] are = (omega arith, refl)
ends-more start last more (end ∷ ends) are = (are.0, ends-more end last more ends are.1)

-- the bytes that are added are the last text
last-text : (bytes text : List ℕ) (start : ℕ) → start ≡ length bytes
    → take (length bytes + length text - start) (drop start (bytes ++ text)) ≡ text
last-text bytes text start is =
    let count : length bytes + length text - start ≡ length text = omega arith in
    rw (count, is, drop-append_seam bytes text) (take-length text)

-- one text more
pub texts-more : (bytes text : List ℕ) (start : ℕ) (ends : List ℕ) → AreEnds start (length bytes) ends
    → texts_of (bytes ++ text) start (ends ++ (length bytes + length text) ∷ []) ≡ texts_of bytes start ends ++ text ∷ []
texts-more bytes text start [] are = ap (λ (last : List ℕ). last ∷ []) (last-text bytes text start are)
texts-more bytes text start (end ∷ ends) are =
    let to : end ≤ length bytes = start-within end (length bytes) ends are.1 in
    rw (take-drop-append bytes text start end are.0 to, texts-more bytes text end ends are.1) refl
