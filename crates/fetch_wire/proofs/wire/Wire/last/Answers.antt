use Rattle.fetch_wire.specs.Wires.{window_of}
use Rattle.fetch_wire.proofs.BodyLemmas.{decided-end}
use Rattle.fetch_wire.proofs.wire.Wire.last.Goals as goal

pub returns-in-Over : goal.returns-in-Over
returns-in-Over c =
    decided-end c.args.reader.framing c.args.reader.limit c.args.reader.bytes c.window-window.result.now
    (window_of c.args.self.now) c.in-Over.end c.window-window.ensures c.in-Over.ensures
