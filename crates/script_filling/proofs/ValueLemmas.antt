-- Header values that are filled piece by piece: what is kept of them is cut to the same.
use Rattle.std.proofs.Common.{◌≡◌, ℕ, List, ◌++◌, Option, None, ap, sym, ◌∙◌, append_assoc}
use Rattle.std.proofs.lemmas.List.{append-nil}
use Rattle.std.specs.List.{flat_map}
use Rattle.value_text.specs.Trims.{http_whitespace, trimmed}
use Rattle.script_scenarios.specs.Pieces.{piece_and, pieces_behind}
use Rattle.script_scenarios.specs.Templates.{filled, first_piece, later_pieces, pieces, placed}
use Rattle.script_filling.specs.Filling.{cut_value}
use Rattle.script_filling.specs.Private.Squeezes.{CutAlike}

-- what is handed on of a value
abbrev pub shortened : List ℕ → List ℕ
shortened text = cut_value (trimmed http_whitespace text)

-- what the pieces that are left come to
abbrev pub left : (List ℕ → List ℕ) → Option (List ℕ) → List ℕ
left value rest = flat_map (placed value) (pieces_behind rest)

-- the first piece is there
pub value-begins : (value : List ℕ → List ℕ) (template first text : List ℕ) (rest : Option (List ℕ))
    → pieces template ≡ piece_and first rest → text ≡ first
    → shortened (filled value template) ≡ shortened (text ++ left value rest)
value-begins value template first text rest split is =
    ap (λ (ps : List (List ℕ)). shortened (first_piece ps ++ flat_map (placed value) (later_pieces ps))) split
    ∙ ap (λ (l : List ℕ). shortened (l ++ left value rest)) (sym is)

-- a piece more, of which no more is kept than is needed
pub value-grows : (value : List ℕ → List ℕ) (whole text behind piece grown made : List ℕ) (more : Option (List ℕ))
    → shortened whole ≡ shortened (text ++ flat_map (placed value) (pieces behind))
    → pieces behind ≡ piece_and piece more → grown ≡ text ++ placed value piece → CutAlike made grown
    → shortened whole ≡ shortened (made ++ left value more)
value-grows value whole text behind piece grown made more so split is alike =
    so
    ∙ ap (λ (ps : List (List ℕ)). shortened (text ++ flat_map (placed value) ps)) split
    ∙ ap shortened (sym (append_assoc text (placed value piece) (left value more)))
    ∙ ap (λ (l : List ℕ). shortened (l ++ left value more)) (sym is)
    ∙ sym (alike (left value more))

-- all pieces are there
pub value-ends : (value : List ℕ → List ℕ) (whole text : List ℕ) (rest : Option (List ℕ))
    → shortened whole ≡ shortened (text ++ left value rest) → rest ≡ None → shortened text ≡ shortened whole
value-ends value whole text rest so none =
    sym (so ∙ ap (λ (r : Option (List ℕ)). shortened (text ++ left value r)) none ∙ ap shortened (append-nil text))
