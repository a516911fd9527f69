-- Pieces of a text, with bytes before the first.
use Rattle.std.proofs.Common.{◌≡◌, ℕ, suc, ◌+◌, ◌<◌, ◌≤◌, Bool, true, false, cond, List, [], ◌∷◌, ◌++◌, length}
use Rattle.std.proofs.Common.{take, drop, get_or, Option, Some, None, refl, ap, sym, ◌∙◌, arith, append_assoc}
use Rattle.std.proofs.Common.{add-one, drop-cons}
use Rattle.std.proofs.Math.Seq.{take-suc}
use Rattle.std.proofs.lemmas.List.{append-nil, length-drop, take-append-drop}
use Rattle.value_text.specs.Pieces.{with_front}
use Rattle.script_scenarios.specs.Templates.{opens, pieces}

-- bytes more at the front of the first piece
abbrev pub onto : List ℕ → List (List ℕ) → List (List ℕ)
onto front [] = front ∷ []
onto front (piece ∷ pieces) = (front ++ piece) ∷ pieces

pub onto-with_front : (front : List ℕ) (byte : ℕ) (ps : List (List ℕ))
    → onto front (with_front byte ps) ≡ onto (front ++ byte ∷ []) ps
onto-with_front front byte [] = refl
onto-with_front front byte (p ∷ ps) =
    ap (λ (l : List ℕ). l ∷ ps) (sym (append_assoc front (byte ∷ []) p))

-- ---- nothing before

either-none : (test : Bool) (byte : ℕ) (ps qs : List (List ℕ))
    → onto [] (cond test ([] ∷ ps) (with_front byte qs)) ≡ cond test ([] ∷ ps) (with_front byte qs)
either-none true byte ps qs = refl
either-none false byte ps [] = refl
either-none false byte ps (q ∷ qs) = refl

pub onto-none : (text : List ℕ) → onto [] (pieces text) ≡ pieces text
onto-none [] = refl
onto-none (byte ∷ []) = refl
onto-none (byte ∷ next ∷ text) = either-none (opens byte next) byte (pieces text) (pieces (next ∷ text))

-- ---- at a place of a text

drop-next : (text : List ℕ) (i j : ℕ) → j ≡ i + 1 → i < length text → drop i text ≡ get_or text i 0 ∷ drop j text
drop-next text i j is lt =
    drop-cons text i 0 lt ∙ ap (λ (n : ℕ). get_or text i 0 ∷ drop n text) (let e : suc i ≡ j = omega (arith, is) in e)

-- a `${` begins there
opened : (text : List ℕ) (i : ℕ) → i + 1 < length text
    → opens (get_or text i 0) (get_or text (i + 1) 0) ≡ true
    → pieces (drop i text) ≡ [] ∷ pieces (drop (i + 2) text)
opened text i lt is =
    rw (drop-next text i (i + 1) refl (omega (arith, lt)), drop-next text (i + 1) (i + 2) (omega arith) lt)
    (rw is refl)

-- or none
unopened : (text : List ℕ) (i : ℕ) → i + 1 < length text
    → opens (get_or text i 0) (get_or text (i + 1) 0) ≡ false
    → pieces (drop i text) ≡ with_front (get_or text i 0) (pieces (drop (i + 1) text))
unopened text i lt is =
    rw (drop-next text i (i + 1) refl (omega (arith, lt)), drop-next text (i + 1) (i + 2) (omega arith) lt)
    (rw is refl)

pub piece-ends : (text : List ℕ) (i : ℕ) (piece rest : List ℕ) → i + 1 < length text
    → opens (get_or text i 0) (get_or text (i + 1) 0) ≡ true
    → pieces text ≡ onto (take i text) (pieces (drop i text)) → piece ≡ take i text → rest ≡ drop (i + 2) text
    → pieces text ≡ piece ∷ pieces rest
piece-ends text i piece rest lt is so front back =
    so ∙ ap (onto (take i text)) (opened text i lt is)
    ∙ ap (λ (l : List ℕ). l ∷ pieces (drop (i + 2) text)) (append-nil (take i text) ∙ sym front)
    ∙ ap (λ (l : List ℕ). piece ∷ pieces l) (sym back)

pub piece-goes-on : (text : List ℕ) (i : ℕ) → i + 1 < length text
    → opens (get_or text i 0) (get_or text (i + 1) 0) ≡ false
    → pieces text ≡ onto (take i text) (pieces (drop i text))
    → pieces text ≡ onto (take (i + 1) text) (pieces (drop (i + 1) text))
piece-goes-on text i lt is so =
    so ∙ ap (onto (take i text)) (unopened text i lt is)
    ∙ onto-with_front (take i text) (get_or text i 0) (pieces (drop (i + 1) text))
    ∙ ap (λ (l : List ℕ). onto l (pieces (drop (i + 1) text)))
    (rw add-one (sym (take-suc text i 0 (omega (arith, lt)))))

-- a text without room for a `${` is one piece
short-pieces : (rest : List ℕ) → length rest ≤ 1 → pieces rest ≡ rest ∷ []
short-pieces [] short = refl
short-pieces (byte ∷ []) short = refl
short-pieces (byte ∷ next ∷ text) short = absurd (omega (arith, short))

pub piece-is-last : (text : List ℕ) (i : ℕ) → length text ≤ i + 1
    → pieces text ≡ onto (take i text) (pieces (drop i text)) → pieces text ≡ text ∷ []
piece-is-last text i past so =
    so ∙ ap (onto (take i text)) (short-pieces (drop i text) (omega (arith, past, length-drop i text)))
    ∙ ap (λ (l : List ℕ). l ∷ []) (take-append-drop i text)

-- ---- the rest of a text

-- how long what is left is, with one byte more where there is some
abbrev pub size_of : Option (List ℕ) → ℕ
size_of None = 0
size_of (Some rest) = length rest + 1
