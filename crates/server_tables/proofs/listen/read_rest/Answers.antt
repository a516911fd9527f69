use Rattle.std.proofs.Common.{◌∙◌, ◌++◌, arith, take, length-append, List, ℕ}
use Rattle.std.proofs.lemmas.List.{length-take}
use Rattle.server_tables.proofs.ListenLemmas.{read-more}
use Rattle.server_tables.proofs.listen.read_rest.Goals as goal

pub loop-room-preserved : goal.loop-room-preserved
loop-room-preserved g c =
    let is = c.loop-room.invariant in
    let piece : List ℕ = take c.in-Ok.count c.read.new.buf in
    record {
      rest = is.rest ++ piece;
      gives = read-more g.P.Source.gives g.P.Sink.takes
          g.P.Source.beside g.met.P.Peer.reads_beside c.args.peer.now c.loop-room.peer c.read.new.self is.rest piece
          is.gives c.in-Ok.ensures.gave c.in-Ok.ensures.beside;
      all = omega (
        arith,
        length-append is.rest piece,
        length-take c.in-Ok.count c.read.new.buf,
        c.in-Ok.ensures.count.0,
        c.in-Ok.ensures.count.1,
        c.read.auto.buf,
        length-take c.min.result c.loop-room.buffer,
        c.min.ensures,
        is.all,
      );
      quiet = c.in-Ok.ensures.cause.quiet ∙ is.quiet;
    }
