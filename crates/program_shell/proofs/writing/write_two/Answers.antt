use Rattle.link_traits.proofs.SinkLemmas.{part-before, err-after}
use Rattle.program_shell.proofs.writing.write_two.Goals as goal

pub returns-in-Err-clause-err : goal.returns-in-Err-clause-err
returns-in-Err-clause-err g c =
    part-before (g.K.Sink.takes c.args.sink.now).taken (g.K.Sink.takes c.write_whole.new.sink).taken c.args.first.now
    c.args.second.now c.in-Err.ensures.err

pub returns-clause-err : goal.returns-clause-err
returns-clause-err g c = err-after c.write_whole-2.result (g.K.Sink.takes c.args.sink.now).taken
    (g.K.Sink.takes c.write_whole.new.sink).taken (g.K.Sink.takes c.write_whole-2.new.sink).taken c.args.first.now
    c.args.second.now c.in_default.ensures.ok c.write_whole-2.ensures.err
