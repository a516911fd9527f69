use Rattle.fetch_machine.proofs.http.read_head.Goals as goal

pub returns-then-sent : goal.returns-then-sent
returns-then-sent c = rw c.if-sent.true c.going.ensures
