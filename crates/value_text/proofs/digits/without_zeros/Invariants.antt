use Rattle.std.proofs.Common.{◌≡◌, length}
use Rattle.value_text.specs.Private.Zeros.{without_zeros}
use Rattle.value_text.proofs.digits.without_zeros.Given as goal

abbrev pub invariant-loop-rest : goal.invariant-loop-rest
invariant-loop-rest l = without_zeros l.digits ≡ without_zeros l.rest

abbrev pub decreases-loop-rest : goal.decreases-loop-rest
decreases-loop-rest l = length l.rest
