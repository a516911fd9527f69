use Rattle.program_cspreport.proofs.ProgramLemmas.{many-reported, reports-played}
use Rattle.program_cspreport.proofs.program.play.Goals as goal

pub write_reports-requires : goal.write_reports-requires
write_reports-requires g c =
    let reported = c.in-Ok-play_reported.reported in
    many-reported c.in-Ok.scenario reported.transcripts reported.reports reported.history
    c.in-Ok-play_reported.ensures

pub returns : goal.returns
returns g c =
    let reported = c.in-Ok-play_reported.reported in
    rw c.status_of.ensures
    (reports-played (g.S.Source.gives c.args.input.now) (g.S.Source.gives c.scenario_in.new.input)
    (g.K.Sink.takes c.args.output.now) (g.K.Sink.takes c.write_reports.new.sink) c.in-Ok.scenario reported.transcripts
    reported.reports reported.history c.write_reports.result c.in-Ok.ensures.read c.in-Ok-play_reported.ensures
    c.write_reports.ensures)
