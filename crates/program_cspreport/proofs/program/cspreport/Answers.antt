use Rattle.program_shell.specs.Words.{texts}
use Rattle.program_cspreport.proofs.ProgramLemmas.{answers}
use Rattle.program_cspreport.proofs.program.cspreport.Goals as goal

pub returns : goal.returns
returns g c = answers (g.S.Source.gives c.args.input.now)
    (g.S.Source.gives c.verdict-verdict.new.input) (g.K.Sink.takes c.args.output.now)
    (g.K.Sink.takes c.verdict-verdict.new.output) (texts c.args.words.now) (g.E.Sink.takes c.args.complaints.now)
    (g.E.Sink.takes c.tell.new.complaints) c.tell.result
    (record {
      verdict = c.verdict-verdict.result;
      is_verdict = c.verdict-verdict.ensures;
      is_told = c.tell.ensures;
    })
