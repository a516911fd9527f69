use Rattle.std.proofs.Common.{◌≡◌, ◌++◌, length}
use Rattle.policy_csp.specs.Reading.{source_list}
use Rattle.value_text.specs.Words.{words}
use Rattle.policy_csp.proofs.compile.source_list.Given as goal

abbrev pub invariant-loop-word : goal.invariant-loop-word
invariant-loop-word l = l.sources ++ source_list (words l.left) ≡ source_list l.words

abbrev pub decreases-loop-word : goal.decreases-loop-word
decreases-loop-word l = length l.left
