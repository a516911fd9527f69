-- Going over the pieces of an answer.
use Rattle.std.proofs.Common.{◌≡◌, ◌<◌, ◌+◌, ℕ, min, List, [], ◌∷◌, ◌++◌, length, take, drop, refl, ap, sym}
use Rattle.std.proofs.Common.{◌∙◌, arith, Some, append_assoc}
use Rattle.std.proofs.Math.Seq.{drop-length, take-nil}
use Rattle.std.proofs.lemmas.List.{length-drop, length-take-le, take-append-drop, take_at}
use Rattle.std.specs.Prelude.{slice_get}
use Rattle.std.specs.List.{concat}
use Rattle.value_lemmas.proofs.Lists.{drop-slice_get}
use Rattle.link_traits.specs.MemoryLink.{behind, front, skipped}

-- nothing is given of the first piece
pub behind-none : (pieces : List (List ℕ)) → behind 0 pieces ≡ pieces
behind-none [] = refl
behind-none (piece ∷ pieces) = refl

-- a piece that is given whole is skipped
pub skip-given : (answer : List (List ℕ)) (piece at : ℕ) (text : List ℕ) → slice_get answer piece ≡ Some text → at
    ≡ length text → skipped (behind 0 (drop (piece + 1) answer)) ≡ skipped (behind at (drop piece answer))
skip-given answer piece at text e given =
    rw (drop-slice_get answer piece text e, given, drop-length text, behind-none (drop (piece + 1) answer)) refl

-- a piece with bytes left is not skipped
pub skip-left : (answer : List (List ℕ)) (piece at : ℕ) (text : List ℕ) → slice_get answer piece ≡ Some text
    → at < length text → skipped (behind at (drop piece answer)) ≡ behind at (drop piece answer)
skip-left answer piece at text e left =
    rw (drop-slice_get answer piece text e)
    (kept (drop at text) (drop (piece + 1) answer) (omega (arith, length-drop at text)))
  where
    kept : (rest : List ℕ) (pieces : List (List ℕ)) → 0 < length rest → skipped (rest ∷ pieces) ≡ rest ∷ pieces
    kept [] pieces h = absurd (no h)
      where
        no : 0 < 0 → ⊥
        no h = omega arith
    kept (byte ∷ rest) pieces h = refl

-- the piece at an index is in front
pub front-at : (answer : List (List ℕ)) (piece : ℕ) (text : List ℕ) → slice_get answer piece ≡ Some text
    → front (drop piece answer) ≡ text
front-at answer piece text e = rw (drop-slice_get answer piece text e) refl

-- and what is left of it is in front of what is to come
pub front-left : (answer left : List (List ℕ)) (piece at : ℕ) (text : List ℕ) → slice_get answer piece ≡ Some text
    → behind at (drop piece answer) ≡ left → front left ≡ drop at text
front-left answer left piece at text e same = rw (← same, drop-slice_get answer piece text e) refl

-- what is given and what is then to come are what was to come
pub concat-given : (pieces : List (List ℕ)) (n : ℕ) → concat pieces ≡ take n (front (skipped pieces))
    ++ concat (behind n (skipped pieces))
concat-given [] n = rw (take-nil n) refl
concat-given ([] ∷ pieces) n = concat-given pieces n
concat-given ((byte ∷ piece) ∷ pieces) n =
    ap (λ (l : List ℕ). l ++ concat pieces) (sym (take-append-drop n (byte ∷ piece)))
    ∙ append_assoc (take n (byte ∷ piece)) (drop n (byte ∷ piece)) (concat pieces)

-- as the trait says it
pub gave-piece : (pieces : List (List ℕ)) (n room : ℕ) (given old : List ℕ) → n
    ≡ min (length (front (skipped pieces))) room → given ≡ take n (front (skipped pieces)) ++ drop n old
    → concat pieces ≡ take n given ++ concat (behind n (skipped pieces))
gave-piece pieces n room given old count e =
    rw (
      e,
      take_at (take n (front (skipped pieces))) (drop n old) n
          (length-take-le n (front (skipped pieces)) (omega (arith, count))),
    ) (concat-given pieces n)

-- nothing is given into a buffer with room only where nothing is to come
pub concat-end : (pieces : List (List ℕ)) (n room : ℕ) → n ≡ min (length (front (skipped pieces))) room → n ≡ 0
    → 0 < room → concat (behind n (skipped pieces)) ≡ []
concat-end [] n room count none some = refl
concat-end ([] ∷ pieces) n room count none some = concat-end pieces n room count none some
concat-end ((byte ∷ piece) ∷ pieces) n room count none some = absurd (no count)
  where
    no : n ≡ min (length (byte ∷ piece)) room → ⊥
    no h = omega arith
