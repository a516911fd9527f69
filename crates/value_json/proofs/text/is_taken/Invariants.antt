use Rattle.std.proofs.Common.{◌≡◌, ◌≤◌, map, drop}
use Rattle.json.specs.Tape.{node_token}
use Rattle.serde_json.specs.Read.{max_depth}
use Rattle.value_json.specs.Private.Taken.{is_taken}
use Rattle.value_json.proofs.text.is_taken.Given as goal

abbrev pub invariant-loop-node : goal.invariant-loop-node
invariant-loop-node l =
    (l.deep ≤ max_depth)
    × (is_taken 0 (map node_token l.nodes) ≡ is_taken l.deep (map node_token (drop l.node-index l.nodes)))
