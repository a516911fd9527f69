use Rattle.std.proofs.lemmas.Result.{on_err_weaker}
use Rattle.fetch_wire.specs.Wires.{over_link}
use Rattle.play_definitions.proofs.WorldLemmas.{on-err}
use Rattle.play_definitions.specs.Plays.{IsPlayOver}
use Rattle.play_links.specs.Links.{IsPlayOverLinks}
use Rattle.play_seats.specs.Makers.{maker_of}
use Rattle.play_links.specs.Unseated.{AreUnseated}
use Rattle.play_definitions.specs.declared.played.Played.{Played}
use Rattle.play_links.proofs.OverLemmas.{opening-refused, played-over, played-refused}
use Rattle.play_seats.proofs.ListLemmas.{if-ok-map}
use Rattle.play_whole.proofs.play.play_over.Goals as goal

pub returns-in_err-open-clause-refused : goal.returns-in_err-open-clause-refused
returns-in_err-open-clause-refused g c = on-err c.from_residual.result (opening-refused (over_link g.N.Link.Link.serves)
    g.N.Link.Link.told c.args.scenario.now c.args.base c.in_err-open.ensures.refused)

pub returns-clause-played : goal.returns-clause-played
returns-clause-played g c =
    let scenario = c.args.scenario.now in
    let told = g.N.Link.Link.told in
    let by = over_link g.N.Link.Link.serves in
    let lent = g.N.Links.lent in
    let count = g.N.Links.faults in
    let maker = maker_of g.N.Links.opening lent count in
    let seats = c.in_ok-open.open.seats.items in
    let mid = c.open_play.new.links in
    let last = c.play_seated.new.links in
    if-ok-map
    (λ (p : Played). AreUnseated told (lent mid) (lent last) (count mid) (count last) seats
    (λ olds news. IsPlayOver by scenario c.args.base olds news p.transcripts p.history))
    (λ (p : Played). IsPlayOverLinks by told (maker c.args.links.now) (maker last) scenario c.args.base p.transcripts
    p.history) c.play_seated.result
    (λ p x. played-over by told scenario c.args.base c.law_faults_shown.ensures.placed c.law_faults_counted.ensures.ran
    c.law_faults_counted.ensures.shown (maker c.args.links.now) (maker mid) (maker last) seats
    p.transcripts p.history c.in_ok-open.ensures.made x) c.play_seated.ensures.played

pub returns-clause-refused : goal.returns-clause-refused
returns-clause-refused g c =
    let scenario = c.args.scenario.now in
    let told = maker_of g.N.Links.opening g.N.Links.lent g.N.Links.faults in
    on_err_weaker c.play_seated.result
    (λ x. played-refused (over_link g.N.Link.Link.serves) g.N.Link.Link.told scenario
    c.args.base (told c.args.links.now) (told c.open_play.new.links) (told c.play_seated.new.links)
    c.in_ok-open.open.seats.items c.in_ok-open.ensures.made x)
    c.play_seated.ensures.refused
