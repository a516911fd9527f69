use Rattle.std.proofs.Common.{◌≡◌, length}
use Rattle.value_text.specs.Trims.{http_whitespace, trimmed_end}
use Rattle.script_filling.proofs.kept.trim_end.Given as goal

abbrev pub invariant-loop-rest : goal.invariant-loop-rest
invariant-loop-rest l = trimmed_end http_whitespace l.text ≡ trimmed_end http_whitespace l.rest

abbrev pub decreases-loop-rest : goal.decreases-loop-rest
decreases-loop-rest l = length l.rest
