use Rattle.fetch_machine.proofs.steps.end.Goals as goal

pub returns-in_ok-kept-in-Reads : goal.returns-in_ok-kept-in-Reads
returns-in_ok-kept-in-Reads c = rw c.in-Reads.is (rw c.in_ok-kept-in-Reads.ensures at c.going.ensures)
