use Rattle.std.proofs.Common.{◌≡◌, ◌++◌, drop, map}
use Rattle.script_filling.specs.Filling.{cut_pair}
use Rattle.script_filling.specs.Results.{lent_result}
use Rattle.script_filling.specs.Filled.{filled_pair}
use Rattle.script_filling.proofs.filling.filled_pairs.Given as goal

-- the pairs so far are filled and cut, and the others follow
abbrev pub invariant-loop-pair : goal.invariant-loop-pair
invariant-loop-pair l =
    map cut_pair (map (filled_pair (lent_result l.last)) l.fn.pairs)
    ≡ l.filled ++ map cut_pair (map (filled_pair (lent_result l.last)) (drop l.pair-index l.pairs))
