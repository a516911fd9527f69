use Rattle.std.proofs.Common.{◌-◌, ◌≤◌}
use Rattle.server_tables.specs.Serving.{peer_told}
use Rattle.program_corsserve.specs.Connections.{accepts_told, HasServedAll}
use Rattle.program_corsserve.proofs.connections.serve_each.Given as goal

abbrev pub invariant-loop-number : goal.invariant-loop-number
invariant-loop-number g l = record {
  served : HasServedAll
      (peer_told g.A.End.Source.gives g.A.End.Sink.takes)
      l.table l.number
      (accepts_told g.A.Accepts.opened g.A.Accepts.coming g.A.Accepts.lent g.A.Accepts.faults l.fn.accepts)
      (accepts_told g.A.Accepts.opened g.A.Accepts.coming g.A.Accepts.lent g.A.Accepts.faults l.accepts)
      (g.K.Sink.takes l.fn.output)
      (g.K.Sink.takes l.output);
  few : l.number ≤ l.count;
}

abbrev pub decreases-loop-number : goal.decreases-loop-number
decreases-loop-number g l = l.count - l.number
