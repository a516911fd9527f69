use Rattle.std.proofs.Common.{◌≡◌, length}
use Rattle.link_http1.specs.Private.Lengths.{shortened}
use Rattle.link_http1.proofs.framing.shortened.Given as goal

abbrev pub invariant-loop-rest : goal.invariant-loop-rest
invariant-loop-rest l = shortened l.digits ≡ shortened l.rest

abbrev pub decreases-loop-rest : goal.decreases-loop-rest
decreases-loop-rest l = length l.rest
