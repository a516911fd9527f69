use Rattle.std.proofs.Common.{◌≡◌, length}
use Rattle.policy_csp_text.specs.Walks.{behind_blanks}
use Rattle.policy_csp_text.proofs.word_list.behind_blanks.Given as goal

abbrev pub invariant-loop-rest : goal.invariant-loop-rest
invariant-loop-rest l = behind_blanks l.text ≡ behind_blanks l.rest

abbrev pub decreases-loop-rest : goal.decreases-loop-rest
decreases-loop-rest l = length l.rest
