use Rattle.std.proofs.Common.{◌≡◌, ℕ, List, Bor, map, length}
use Rattle.json.specs.Json.{Members}
use Rattle.json.specs.Find.{InMembers}
use Rattle.value_json.specs.Private.Written.{written_known}
use Rattle.value_json.proofs.tree.are_known.Given as goal

abbrev pub invariant-loop-key : goal.invariant-loop-key
invariant-loop-key l =
    (all : Members) → InMembers l.fn.members all → (rest : Members) × InMembers l.members rest
    × (written_known (map (λ (name : Bor (List ℕ)). name.now) l.names) all
    ≡ written_known (map (λ (name : Bor (List ℕ)). name.now) l.names) rest)

abbrev pub decreases-loop-key : goal.decreases-loop-key
decreases-loop-key l = length l.members
