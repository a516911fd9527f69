use Rattle.std.proofs.Common.{Some, ap, refl}
use Rattle.play_seats.proofs.ListLemmas.{if-ok-map}
use Rattle.play_seats.proofs.ServerLemmas.{by_bytes, sim_told}
use Rattle.report_play.specs.Plays.{IsReportedPlay}
use Rattle.report_play.specs.Private.Delivered.{WasReported}
use Rattle.report_play.specs.declared.play.Reported.{Reported}
use Rattle.report_play.proofs.ReportedLemmas.{reported-play}
use Rattle.play_seats.specs.Sim.{SimState}
use Rattle.report_play.proofs.play.play_reported.Goals as goal

pub returns : goal.returns
returns g c =
    let scenario = c.args.scenario.now in
    let made = c.in_ok-open.open.seats.items in
    if-ok-map (λ (r : Reported). WasReported by_bytes sim_told scenario made r.transcripts r.reports r.history)
    (λ (r : Reported). IsReportedPlay scenario r.transcripts r.reports r.history) c.play_seated.result
    (λ r x. reported-play scenario made r.transcripts r.reports r.history c.new-links.result
    (λ k number by. Some c.new-links.result) (ap (λ (l : SimState). l.servers) c.new-links.ensures)
    (λ k number by. refl) c.in_ok-open.ensures.made.opened x) c.play_seated.ensures
