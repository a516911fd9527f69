use Rattle.server_tables.specs.Private.Coming.{HasComeOn}
use Rattle.server_tables.specs.Serving.{peer_told}
use Rattle.server_tables.proofs.listen.read_rest.Given as goal

abbrev pub invariant-loop-room : goal.invariant-loop-room
invariant-loop-room g l =
    HasComeOn
    (peer_told g.P.Source.gives g.P.Sink.takes l.fn.peer)
    (peer_told g.P.Source.gives g.P.Sink.takes l.peer)
    l.before l.room

abbrev pub decreases-loop-room : goal.decreases-loop-room
decreases-loop-room g l = l.room
