use Rattle.std.proofs.Common.{Some, ap, refl}
use Rattle.play_seats.specs.Sim.{SimState, fault_count, not_lent}
use Rattle.play_seats.specs.Makers.{Maker}
use Rattle.play_links.specs.Links.{IsPlayOverLinks}
use Rattle.play_definitions.specs.Plays.{IsPlay}
use Rattle.play_definitions.specs.declared.played.Played.{Played}
use Rattle.play_seats.proofs.ServerLemmas.{by_bytes, sim_told}
use Rattle.play_seats.proofs.ListLemmas.{if-ok-map}
use Rattle.play_links.proofs.StandingLemmas.{scripted-play}
use Rattle.play_whole.proofs.play.play_scripted.Goals as goal

pub returns-clause-played : goal.returns-clause-played
returns-clause-played g c =
    let scenario = c.args.scenario.now in
    let told : SimState → Maker SimState =
    λ l. record { opening = λ k number by. Some l; lent = not_lent; faults = fault_count } in
    if-ok-map (λ (p : Played). IsPlayOverLinks by_bytes sim_told (told c.new-links.result)
    (told c.play_over.new.links) scenario scenario.now p.transcripts p.history)
    (λ (p : Played). IsPlay scenario p.transcripts p.history) c.play_over.result
    (λ p x. scripted-play scenario p.transcripts p.history c.new-links.result (told c.new-links.result)
    (told c.play_over.new.links) (ap (λ (l : SimState). l.servers) c.new-links.ensures) (λ k number by. refl) x)
    c.play_over.ensures.played
