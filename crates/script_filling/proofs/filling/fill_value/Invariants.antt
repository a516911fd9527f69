use Rattle.std.proofs.Common.{◌≡◌, ◌++◌, ℕ, List, Bor}
use Rattle.std.specs.Prelude.{option_map}
use Rattle.std.specs.List.{flat_map}
use Rattle.value_text.specs.Trims.{http_whitespace, trimmed}
use Rattle.script_scenarios.specs.Pieces.{pieces_behind}
use Rattle.script_scenarios.specs.Templates.{filled, placed}
use Rattle.script_filling.specs.Filling.{cut_value}
use Rattle.script_filling.specs.Results.{lent_result, value_of}
use Rattle.script_filling.proofs.FillingLemmas.{size_of}
use Rattle.script_filling.proofs.filling.fill_value.Given as goal

-- what was filled, and the pieces that are left, are cut to the same
abbrev pub invariant-loop-rest : goal.invariant-loop-rest
invariant-loop-rest l =
    cut_value (trimmed http_whitespace (filled (value_of (lent_result l.last)) l.template))
    ≡ cut_value (trimmed http_whitespace (l.text.items ++ flat_map (placed (value_of (lent_result l.last)))
    (pieces_behind (option_map (λ (r : Bor (List ℕ)). r.now) l.rest))))

abbrev pub decreases-loop-rest : goal.decreases-loop-rest
decreases-loop-rest l = size_of (option_map (λ (r : Bor (List ℕ)). r.now) l.rest)
