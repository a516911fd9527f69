use Rattle.link_http1.proofs.taking.take_piece.Goals as goal

pub returns-in-ToEnd : goal.returns-in-ToEnd
returns-in-ToEnd c = rw c.in-ToEnd.is (c.take_all.ensures c.args.place.now)

pub returns-in-Length : goal.returns-in-Length
returns-in-Length c = rw c.in-Length.is (c.take_length.ensures c.args.place.now)
