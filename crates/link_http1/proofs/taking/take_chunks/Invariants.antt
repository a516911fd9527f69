use Rattle.std.proofs.Common.{◌++◌, length, vec_capacity}
use Rattle.link_http1.specs.Private.BodyPlaces.{IsOn, rest_end}
use Rattle.link_http1.specs.declared.framing.Framing.TheVariants.{Chunked}
use Rattle.link_http1.proofs.taking.take_chunks.Given as goal

abbrev pub invariant-loop-rest : goal.invariant-loop-rest
invariant-loop-rest l =
    IsOn Chunked l.limit (λ more. rest_end Chunked l.limit l.fn.held.items l.fn.place (l.fn.piece ++ more))
    l.held.items (vec_capacity l.held) l.place l.rest

abbrev pub decreases-loop-rest : goal.decreases-loop-rest
decreases-loop-rest l = length l.rest
