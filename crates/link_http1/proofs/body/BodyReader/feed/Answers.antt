use Rattle.link_http1.proofs.BodyLemmas.{opened}
use Rattle.link_http1.proofs.body.BodyReader.feed.Goals as goal

pub returns-in-Open : goal.returns-in-Open
returns-in-Open c =
    opened c.args.self c.self.inside.framing c.self.inside.limit c.self.inside.seen.bytes c.note.new.self.bytes
    c.args.piece.now c.self.inside.held.items c.take_piece.new.held.items
    _ _ c.self.inside.place c.take_piece.new.place c.take_piece.result c.self.view_is c.note.ensures c.self.invariant
    c.take_piece.ensures c.in-Open.is
