use Rattle.std.proofs.Common.{arith}
use Rattle.link_http1.proofs.BodyLemmas.{begins}
use Rattle.link_http1.proofs.body.BodyReader.framed.Goals as goal

pub invariant_of-result : goal.invariant_of-result
invariant_of-result c = begins c.args.framing c.args.limit _ _ _ c.new.ensures c.in_ok-held.ensures.items
    (omega (arith, c.in_ok-held.ensures.capacity, c.most_held.ensures))
