use Rattle.std.proofs.Common.{◌≡◌, length}
use Rattle.policy_csp_match.specs.Grammar as spec
use Rattle.policy_csp_match.proofs.grammar.are_path_bytes.Given as goal

abbrev pub invariant-loop-left : goal.invariant-loop-left
invariant-loop-left l = spec.are_path_bytes l.left ≡ spec.are_path_bytes l.text

abbrev pub decreases-loop-left : goal.decreases-loop-left
decreases-loop-left l = length l.left
