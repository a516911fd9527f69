use Rattle.std.proofs.Common.{arith}
use Rattle.link_http1.proofs.BodyLemmas.{fewer-length, fewer-to_end}
use Rattle.link_http1.proofs.FewestLemmas.{fewest-length, fewest-to_end}
use Rattle.link_http1.proofs.body.BodyReader.fewest.Goals as goal

pub returns-in-Length-clause-open : goal.returns-in-Length-clause-open
returns-in-Length-clause-open c = λ piece few.
    fewer-length c.args.self.now c.self.inside.framing c.in-Length.total c.self.inside.limit
    c.self.inside.seen.bytes piece c.self.inside.held.items _ c.self.inside.place c.self.view_is c.in-Length.is
    c.self.invariant (omega (arith, few, c.least.ensures, c.len-held.ensures))
    (omega (arith, few, c.least.ensures, c.len-held.ensures))

pub returns-in-ToEnd-clause-open : goal.returns-in-ToEnd-clause-open
returns-in-ToEnd-clause-open c = λ piece few.
    fewer-to_end c.args.self.now c.self.inside.framing c.self.inside.limit c.self.inside.seen.bytes piece
    c.self.inside.held.items _ c.self.inside.place c.self.view_is c.in-ToEnd.is c.self.invariant
    (omega (arith, few, c.len-held.ensures))

pub returns-in-Length-clause-exact : goal.returns-in-Length-clause-exact
returns-in-Length-clause-exact c =
    fewest-length c.args.self.now c.self.inside.framing c.in-Length.total c.self.inside.limit
    c.self.inside.seen.bytes c.self.inside.held.items _ c.self.inside.place _ c.self.view_is c.in-Length.is
    c.self.invariant (omega (arith, c.least.ensures, c.len-held.ensures))

pub returns-in-ToEnd-clause-exact : goal.returns-in-ToEnd-clause-exact
returns-in-ToEnd-clause-exact c =
    fewest-to_end c.args.self.now c.self.inside.framing c.self.inside.limit c.self.inside.seen.bytes
    c.self.inside.held.items _ c.self.inside.place _ c.self.view_is c.in-ToEnd.is c.self.invariant
    (omega (arith, c.len-held.ensures))
