use Rattle.fetch_wire.proofs.WireLemmas.{window-behind}
use Rattle.fetch_wire.proofs.wire.Wire.begin_body.Goals as goal

pub returns-clause-window : goal.returns-clause-window
returns-clause-window c =
    let old = c.args.self.now in
    window-behind old.buffer.items old.from old.to c.args.count c.requires
