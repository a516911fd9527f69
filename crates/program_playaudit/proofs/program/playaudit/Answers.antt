use Rattle.program_shell.specs.Words.{texts}
use Rattle.program_playaudit.proofs.ProgramLemmas.{answers}
use Rattle.program_playaudit.proofs.program.playaudit.Goals as goal

pub returns : goal.returns
returns g c =
    answers
    (g.S.Source.gives c.args.input.now)
    (g.S.Source.gives c.status-status.new.input)
    (g.K.Sink.takes c.args.output.now)
    (g.K.Sink.takes c.status-status.new.output)
    (texts c.args.words.now)
    (g.E.Sink.takes c.args.complaints.now)
    (g.E.Sink.takes c.tell.new.complaints)
    c.tell.result
    (record {
      verdict = c.status-status.result;
      is_verdict = c.status-status.ensures;
      is_told = c.tell.ensures;
    })
