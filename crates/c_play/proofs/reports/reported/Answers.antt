use Rattle.program_cspreport.proofs.ProgramLemmas.{many-reported}
use Rattle.c_play.proofs.reports.reported.Goals as goal

pub write_reports-requires : goal.write_reports-requires
write_reports-requires c =
    let reported = c.in_ok-reported.reported in
    many-reported c.args.scenario.now reported.transcripts reported.reports reported.history
    c.in_ok-reported.ensures.reported
