use Rattle.std.proofs.Common.{inr, sym}
use Rattle.program_corsserve.specs.Connections.{accepts_told}
use Rattle.program_corsserve.proofs.program.serve_table.Goals as goal

pub returns-in-Ok : goal.returns-in-Ok
returns-in-Ok g c = inr (record {
  mid = accepts_told g.A.Accepts.opened g.A.Accepts.coming g.A.Accepts.lent g.A.Accepts.faults c.listen.new.self;
  listens = record {
    opened = rw (sym c.as_slice.ensures) c.in-Ok.ensures.opened;
    coming_is = c.in-Ok.ensures.coming;
    lent_is = c.in-Ok.ensures.lent;
    faults_are = c.in-Ok.ensures.cause.quiet;
  };
  serves = c.serve_each.ensures;
})
