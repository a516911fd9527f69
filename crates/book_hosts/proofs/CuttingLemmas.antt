-- The first piece of a text, and the others.
use Rattle.std.proofs.Common.{◌≡◌, ◌≤◌, ◌+◌, ℕ, suc, Bool, true, false, if◌then◌else◌, List, [], ◌∷◌, length, take}
use Rattle.std.proofs.Common.{drop, Option, Some, None, refl, ap, sym}
use Rattle.std.proofs.Common.{◌∙◌, arith, append_assoc, append-nil, ◌<◌, ◌-◌}
use Rattle.std.proofs.lemmas.List.{take_rest}
use Rattle.book_hosts.specs.Private.Pieces.{piece_end}
use Rattle.book_hosts.specs.Reading.{cuts, directives_in, directives_of, next_place, piece_in, pieces}
use Rattle.value_text.specs.Pieces.{with_front}
use Rattle.book_hosts.specs.Reading.{with_more}
use Rattle.book_hosts.specs.declared.directives.Directive.{Directive}
use Rattle.book_hosts.specs.declared.pieces.Place.{Place}
use Rattle.book_hosts.specs.declared.pieces.Place.TheVariants.{Outside}

end-within : (cut : Bool) (n end : ℕ) → end ≤ n → (if cut then 0 else suc end) ≤ n + 1
end-within true n end h = omega arith
end-within false n end h = omega (arith, h)

-- the first piece ends within the text
pub piece_end-within : (place : Place) (text : List ℕ) → piece_end place text ≤ length text
piece_end-within place [] = omega arith
piece_end-within place (byte ∷ text) =
    omega (
      arith,
      end-within (cuts place byte) (length text) (piece_end (next_place place byte) text)
          (piece_end-within (next_place place byte) text),
    )

-- the pieces after the first one
abbrev pub pieces_behind : List ℕ → List (List ℕ)
pieces_behind [] = []
pieces_behind (semicolon ∷ text) = pieces Outside text

cut-there : (cut : Bool) (byte : ℕ) (text : List ℕ) (end : ℕ) (ps : List (List ℕ))
    → ps ≡ take end text ∷ pieces_behind (drop end text)
    → (if cut then [] ∷ pieces Outside text else with_front byte ps)
    ≡ take (if cut then 0 else suc end) (byte ∷ text) ∷ pieces_behind (drop (if cut then 0 else suc end) (byte ∷ text))
cut-there true byte text end ps h = refl
cut-there false byte text end ps h = ap (with_front byte) h

-- the pieces are the first one, and the ones after its semicolon
pub pieces-cut : (place : Place) (text : List ℕ) → pieces place text ≡ take (piece_end place text) text
    ∷ pieces_behind (drop (piece_end place text) text)
pieces-cut place [] = refl
pieces-cut place (byte ∷ text) =
    cut-there (cuts place byte) byte text (piece_end (next_place place byte) text)
    (pieces (next_place place byte) text) (pieces-cut (next_place place byte) text)

-- directives put together
pub with_more-nothing : (found : Option (List Directive)) → with_more found (Some []) ≡ found
with_more-nothing None = refl
with_more-nothing (Some directives) = ap (λ (l : List Directive). Some l) (append-nil directives)

with_more-assoc : (a b c : Option (List Directive)) → with_more a (with_more b c) ≡ with_more (with_more a b) c
with_more-assoc None b c = refl
with_more-assoc (Some x) None c = refl
with_more-assoc (Some x) (Some y) None = refl
with_more-assoc (Some x) (Some y) (Some z) = ap (λ (l : List Directive). Some l) (sym (append_assoc x y z))

-- the directives after one piece more
pub field-step : (rest : List ℕ) (old : List Directive) (whole added : Option (List Directive))
    (piece behind : List ℕ) (end : ℕ) → end ≡ piece_end Outside rest
    → piece ≡ take end rest → behind ≡ drop end rest → whole ≡ with_more (Some old) (directives_of rest) → added
    ≡ with_more (Some old) (piece_in piece)
    → whole ≡ with_more added (directives_in (pieces_behind behind))
field-step rest old whole added piece behind end e front back before now =
    let cut : directives_of rest ≡ with_more (piece_in piece) (directives_in (pieces_behind behind)) =
    rw (pieces-cut Outside rest, front, back, e) refl in
    before ∙ ap (λ found. with_more (Some old) found) cut
    ∙ with_more-assoc (Some old) (piece_in piece) (directives_in (pieces_behind behind))
    ∙ ap (λ found. with_more found (directives_in (pieces_behind behind))) (sym now)

-- where it is the last
pub field-last : (whole : Option (List Directive)) (new : List Directive) (behind : List ℕ) → length behind < 1
    → whole ≡ with_more (Some new) (directives_in (pieces_behind behind)) → Some new ≡ whole
field-last whole new [] h e = sym (e ∙ with_more-nothing (Some new))
field-last whole new (byte ∷ behind) h e = absurd (omega arith)

-- where there are others
pub field-others : (whole : Option (List Directive)) (new : List Directive) (behind : List ℕ) → 1 ≤ length behind
    → whole ≡ with_more (Some new) (directives_in (pieces_behind behind))
    → whole ≡ with_more (Some new) (directives_of (take (length behind - 1) (drop 1 behind)))
field-others whole new [] h e = absurd (omega arith)
field-others whole new (byte ∷ behind) h e =
    let rest : take (length (byte ∷ behind) - 1) behind ≡ behind = take_rest (byte ∷ behind) 1 in
    rw rest e
