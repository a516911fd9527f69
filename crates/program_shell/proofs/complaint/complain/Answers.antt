use Rattle.program_shell.specs.Statuses.{line}
use Rattle.program_shell.proofs.ProgramLemmas.{complained}
use Rattle.program_shell.proofs.complaint.complain.Goals as goal

pub returns : goal.returns
returns g c =
    let wrote = c.write_line.ensures in
    complained (line c.args.head.now c.args.detail.now) (g.E.Sink.takes c.args.complaints.now)
    (g.E.Sink.takes c.write_line.new.sink) c.write_line.result wrote.ok wrote.err wrote.faults wrote.zeros
