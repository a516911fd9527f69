use Rattle.std.proofs.Common.{◌∙◌, ℕ, List, ap, refl}
use Rattle.link_http1.specs.Answers.{IsUnfinished}
use Rattle.fetch_wire.specs.declared.exchange.Found.{Found}
use Rattle.fetch_wire.specs.Private.Reads.{faults_found}
use Rattle.fetch_wire.specs.Wires.{exchange_of, onto_left, window_of}
use Rattle.fetch_wire.proofs.HeadLemmas.{read-final, read-long}
use Rattle.fetch_wire.proofs.WireLemmas.{few-on}
use Rattle.fetch_wire.proofs.wire.Wire.read_head.Goals as goal

pub returns-in-Long-clause-read : goal.returns-in-Long-clause-read
returns-in-Long-clause-read g c =
    let closed = c.close-in-Long.ensures in
    let found = c.in_ok-head.ensures in
    read-long (exchange_of g.L.Link.told c.args.link.now c.args.self.now)
    (exchange_of g.L.Link.told c.close-in-Long.new.link c.close-in-Long.new.self)
    c.in_ok-head.field-0 (window_of c.find_head.new.self) (g.L.Link.told c.find_head.new.link).left c.in-Long.is
    found.found
    (few-on IsUnfinished _ _ _ _ _ _ _ _ refl closed.received found.few) closed.idle (closed.state ∙ found.state)
    (closed.faults ∙ found.faults ∙ ap (λ (f : Found). faults_found f (g.L.Link.told c.args.link.now).faults)
    c.in-Long.is)

pub returns-in_ok-framing-in-Head-clause-read : goal.returns-in_ok-framing-in-Head-clause-read
returns-in_ok-framing-in-Head-clause-read g c =
    let begun = c.begin_body.ensures in
    let found = c.in_ok-head.ensures in
    read-final (exchange_of g.L.Link.told c.args.link.now c.args.self.now)
    (exchange_of g.L.Link.told c.find_head.new.link
    c.begin_body.new.self) c.in_ok-head.field-0 (window_of c.find_head.new.self) c.in-Head.head c.in-Head.count
    c.in-Head.is found.found found.few
    (ap (λ (l : List ℕ). onto_left l (g.L.Link.told c.find_head.new.link).left) begun.window)
    (begun.framing ∙ c.in_ok-framing-in-Head.ensures) found.state
    (found.faults ∙ ap (λ (f : Found). faults_found f (g.L.Link.told c.args.link.now).faults) c.in-Head.is)
