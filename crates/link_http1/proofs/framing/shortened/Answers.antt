use Rattle.std.proofs.Common.{arith}
use Rattle.link_http1.proofs.ShortLemmas.{shortened-few}
use Rattle.link_http1.proofs.framing.shortened.Goals as goal

pub returns-in_default : goal.returns-in_default
returns-in_default c = grind (arith, shortened-few, c.loop-rest.invariant)
