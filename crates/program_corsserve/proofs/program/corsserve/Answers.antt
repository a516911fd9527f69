use Rattle.server_tables.specs.Serving.{peer_told}
use Rattle.program_shell.specs.Words.{texts}
use Rattle.program_corsserve.specs.Connections.{accepts_told}
use Rattle.program_corsserve.proofs.ProgramLemmas.{answers}
use Rattle.program_corsserve.proofs.program.corsserve.Goals as goal

pub returns : goal.returns
returns g c =
    answers
    (peer_told g.A.End.Source.gives g.A.End.Sink.takes)
    (g.S.Source.gives c.args.input.now)
    (g.S.Source.gives c.verdict-verdict.new.input)
    (accepts_told g.A.Accepts.opened g.A.Accepts.coming g.A.Accepts.lent g.A.Accepts.faults c.args.accepts.now)
    (accepts_told g.A.Accepts.opened g.A.Accepts.coming g.A.Accepts.lent g.A.Accepts.faults
    c.verdict-verdict.new.accepts)
    (g.K.Sink.takes c.args.output.now)
    (g.K.Sink.takes c.verdict-verdict.new.output)
    (texts c.args.words.now)
    (g.E.Sink.takes c.args.complaints.now)
    (g.E.Sink.takes c.tell.new.complaints)
    c.tell.result
    (record {
      verdict = c.verdict-verdict.result;
      is_verdict = c.verdict-verdict.ensures.verdict;
      is_told = c.tell.ensures;
    })
    c.verdict-verdict.ensures.first
