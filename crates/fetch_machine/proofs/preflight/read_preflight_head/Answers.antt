use Rattle.fetch_machine.proofs.preflight.read_preflight_head.Goals as goal

pub returns-then-sent : goal.returns-then-sent
returns-then-sent c = rw c.if-sent.true c.going.ensures
