use Rattle.server_tables.specs.Serving.{peer_told}
use Rattle.program_corsserve.specs.Connections.{accepts_told}
use Rattle.program_corsserve.proofs.ConnectionLemmas.{served-next}
use Rattle.program_corsserve.proofs.connections.serve_next.Goals as goal

pub returns-clause-ok : goal.returns-clause-ok
returns-clause-ok g c =
    served-next
    (peer_told g.A.End.Source.gives g.A.End.Sink.takes)
    c.args.table.now
    (accepts_told g.A.Accepts.opened g.A.Accepts.coming g.A.Accepts.lent g.A.Accepts.faults c.args.accepts.now)
    (accepts_told g.A.Accepts.opened g.A.Accepts.coming g.A.Accepts.lent g.A.Accepts.faults c.next.new.self)
    (accepts_told g.A.Accepts.opened g.A.Accepts.coming g.A.Accepts.lent g.A.Accepts.faults c.take_back.new.self)
    (record { given = c.in_ok-end.end; back = c.serve-served.new.peer; served = c.serve-served.result })
    c.serve-served.ensures c.in_ok-end.ensures.gave c.in_ok-end.ensures.lent c.in_ok-end.ensures.opened
    c.take_back.ensures.took c.take_back.ensures.coming c.take_back.ensures.opened c.in_ok-end.ensures.cause.quiet
    c.take_back.ensures.faults

pub returns-clause-err : goal.returns-clause-err
returns-clause-err g c = tt
