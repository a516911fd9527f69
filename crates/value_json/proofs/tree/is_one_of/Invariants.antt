use Rattle.std.proofs.Common.{◌≡◌, ℕ, List, Bor, map, drop}
use Rattle.value_json.specs.Keys.{is_one_of}
use Rattle.value_json.proofs.tree.is_one_of.Given as goal

abbrev pub invariant-loop-name : goal.invariant-loop-name
invariant-loop-name l =
    is_one_of (map (λ (name : Bor (List ℕ)). name.now) l.names) l.key
    ≡ is_one_of (map (λ (name : Bor (List ℕ)). name.now) (drop l.name-index l.names)) l.key
