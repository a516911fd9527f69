use Rattle.std.proofs.Common.{◌≢◌, get_or, refl}
use Rattle.script_events.specs.declared.events.Ending.TheVariants.{Memory}
use Rattle.play_serial.proofs.SoFarLemmas.{next-came}
use Rattle.play_seats.proofs.ServedLemmas.{document-at}
use Rattle.play_serial.proofs.in_turn.play_next.Goals as goal

pub returns : goal.returns
returns c =
    let scenario = c.args.scenario.now in
    let one = document-at scenario.documents c.args.number c.requires.one in
    let told : c.drive-transcript.result.ending ≢ Memory =
    λ is. let now = rw is at c.eq.ensures in cc (now, c.if-eq.false) in
    next-came scenario c.args.number c.args.so_far one.0 c.resumed-share.result.1 c.drive-transcript.new.pass
    c.new-link.result c.drive-transcript.new.link c.drive-transcript.result c.requires.before
    c.resumed-share.ensures.pass
    (record {
      book = c.close-book.result.0;
      history = c.close-book.result.1;
      transcripts = c.push.new.self;
    })
    c.resumed-share.result.0 _ one.1 c.resumed-share.ensures.share c.new-link.ensures
    c.drive-transcript.ensures.pass c.drive-transcript.ensures.number
    (c.drive-transcript.ensures.key one.0 one.1 told) told (c.drive-transcript.ensures.came one.0 one.1)
    c.close-book.ensures.book c.close-book.ensures.grown c.close-book.ensures.legal c.close-book.ensures.of_document
    c.close-book.ensures.turns c.in_ok-push.ensures.ok
