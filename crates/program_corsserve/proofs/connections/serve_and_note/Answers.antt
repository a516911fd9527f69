use Rattle.std.proofs.Common.{[], arith, refl, sym, subst}
use Rattle.link_traits.proofs.SinkLemmas.{took-nothing}
use Rattle.server_tables.specs.Serving.{peer_told}
use Rattle.server_tables.specs.declared.serving.Served.{Served}
use Rattle.program_corsserve.specs.Connections.{accepts_told}
use Rattle.program_corsserve.specs.Private.Notes.{IsNoted}
use Rattle.program_corsserve.proofs.ConnectionLemmas.{noted-one, served-nothing}
use Rattle.program_corsserve.proofs.connections.serve_and_note.Goals as goal

pub returns-in-Ok : goal.returns-in-Ok
returns-in-Ok g c =
    let was = c.in-Ok.ensures.ok in
    let old = (g.K.Sink.takes c.args.output.now) in
    let new = (g.K.Sink.takes c.note.new.output) in
    noted-one
    (peer_told g.A.End.Source.gives g.A.End.Sink.takes)
    c.args.table.now
    (accepts_told g.A.Accepts.opened g.A.Accepts.coming g.A.Accepts.lent g.A.Accepts.faults c.args.accepts.now)
    (accepts_told g.A.Accepts.opened g.A.Accepts.coming g.A.Accepts.lent g.A.Accepts.faults c.serve_next.new.accepts)
    old new was.connection c.note.result was.has_served was.quiet
    (subst (λ (s : Served). IsNoted old new s c.note.result) (sym was.served_is) c.note.ensures)

pub returns-in-Err : goal.returns-in-Err
returns-in-Err g c =
    let none = c.in-Err.ensures.err in
    record {
      connections = [];
      few = omega (arith);
      served = served-nothing
          (peer_told g.A.End.Source.gives g.A.End.Sink.takes)
          c.args.table.now
          (accepts_told g.A.Accepts.opened g.A.Accepts.coming g.A.Accepts.lent g.A.Accepts.faults c.args.accepts.now)
          (accepts_told g.A.Accepts.opened g.A.Accepts.coming g.A.Accepts.lent g.A.Accepts.faults
          c.serve_next.new.accepts)
          none.coming_is none.lent_is none.opened_is;
      lines = tt;
      took = took-nothing (g.K.Sink.takes c.args.output.now).taken;
      whole = (refl, refl);
      cause = none.cause;
    }
