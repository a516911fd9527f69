use Rattle.std.proofs.Common.{◌++◌, codes}
use Rattle.link_traits.proofs.SinkLemmas.{part-before, err-after}
use Rattle.program_shell.proofs.writing.write_line.Goals as goal

pub returns-in-Err-clause-err : goal.returns-in-Err-clause-err
returns-in-Err-clause-err g c =
    part-before (g.K.Sink.takes c.args.sink.now).taken (g.K.Sink.takes c.write_whole.new.sink).taken c.args.head.now
    (c.args.detail.now ++ codes "\n") c.in-Err.ensures.err

pub returns-clause-err : goal.returns-clause-err
returns-clause-err g c = err-after c.write_two.result (g.K.Sink.takes c.args.sink.now).taken
    (g.K.Sink.takes c.write_whole.new.sink).taken (g.K.Sink.takes c.write_two.new.sink).taken c.args.head.now
    (c.args.detail.now ++ codes "\n") c.in_default.ensures.ok c.write_two.ensures.err
