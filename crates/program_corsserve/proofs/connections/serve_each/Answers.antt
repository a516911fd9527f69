use Rattle.std.proofs.Common.{arith}
use Rattle.server_tables.specs.Serving.{peer_told}
use Rattle.program_corsserve.specs.Connections.{accepts_told}
use Rattle.program_corsserve.proofs.ConnectionLemmas.{all-after, all-none, one-after}
use Rattle.program_corsserve.proofs.connections.serve_each.Goals as goal

pub loop-number-init : goal.loop-number-init
loop-number-init g c = record {
  served = all-none
      (peer_told g.A.End.Source.gives g.A.End.Sink.takes)
      c.args.table.now
      (accepts_told g.A.Accepts.opened g.A.Accepts.coming g.A.Accepts.lent g.A.Accepts.faults c.args.accepts.now)
      (g.K.Sink.takes c.args.output.now);
  few = omega (arith);
}

pub loop-number-preserved : goal.loop-number-preserved
loop-number-preserved g c = record {
  served = all-after
      (peer_told g.A.End.Source.gives g.A.End.Sink.takes)
      c.args.table.now c.loop-number.number c.args.count
      (accepts_told g.A.Accepts.opened g.A.Accepts.coming g.A.Accepts.lent g.A.Accepts.faults c.args.accepts.now)
      (accepts_told g.A.Accepts.opened g.A.Accepts.coming g.A.Accepts.lent g.A.Accepts.faults c.loop-number.accepts)
      (accepts_told g.A.Accepts.opened g.A.Accepts.coming g.A.Accepts.lent g.A.Accepts.faults
      c.serve_and_note.new.accepts)
      (g.K.Sink.takes c.args.output.now)
      (g.K.Sink.takes c.loop-number.output)
      (g.K.Sink.takes c.serve_and_note.new.output)
      c.loop-number.invariant.served c.in-Ok.ensures;
  few = omega (arith, c.loop-number-test.true);
}

pub returns-in_default : goal.returns-in_default
returns-in_default g c =
    one-after
    (peer_told g.A.End.Source.gives g.A.End.Sink.takes)
    c.args.table.now c.loop-number.number c.args.count
    (accepts_told g.A.Accepts.opened g.A.Accepts.coming g.A.Accepts.lent g.A.Accepts.faults c.args.accepts.now)
    (accepts_told g.A.Accepts.opened g.A.Accepts.coming g.A.Accepts.lent g.A.Accepts.faults c.loop-number.accepts)
    (accepts_told g.A.Accepts.opened g.A.Accepts.coming g.A.Accepts.lent g.A.Accepts.faults
    c.serve_and_note.new.accepts)
    (g.K.Sink.takes c.args.output.now)
    (g.K.Sink.takes c.loop-number.output)
    (g.K.Sink.takes c.serve_and_note.new.output)
    c.loop-number.invariant.served c.serve_and_note.result c.loop-number-test.true c.serve_and_note.ensures
    c.in_default.not-Ok
