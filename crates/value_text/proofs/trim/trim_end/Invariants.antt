use Rattle.std.proofs.Common.{◌≡◌, length}
use Rattle.value_text.specs.Trims.{trimmed_end}
use Rattle.value_text.proofs.trim.trim_end.Given as goal

abbrev pub invariant-loop-rest : goal.invariant-loop-rest
invariant-loop-rest l = trimmed_end l.blanks l.text ≡ trimmed_end l.blanks l.rest

abbrev pub decreases-loop-rest : goal.decreases-loop-rest
decreases-loop-rest l = length l.rest
