use Rattle.std.proofs.Common.{◌≡◌, ℕ, Bor, List}
use Rattle.std.specs.Prelude.{option_map}
use Rattle.std.specs.List.{list_all}
use Rattle.script_scenarios.specs.Templates as spec
use Rattle.script_scenarios.specs.Pieces.{pieces_behind}
use Rattle.script_scenarios.proofs.PieceLemmas.{size_of}
use Rattle.script_scenarios.proofs.template.is_template.Given as goal

-- the pieces so far begin with names
abbrev pub invariant-loop-rest : goal.invariant-loop-rest
invariant-loop-rest l =
    spec.is_template l.fn.text
    ≡ list_all spec.begins_with_name (pieces_behind (option_map (λ (r : Bor (List ℕ)). r.now) l.rest))

abbrev pub decreases-loop-rest : goal.decreases-loop-rest
decreases-loop-rest l = size_of (option_map (λ (r : Bor (List ℕ)). r.now) l.rest)
