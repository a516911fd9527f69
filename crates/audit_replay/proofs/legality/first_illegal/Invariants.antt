use Rattle.audit_replay.proofs.LegalityLemmas.{Judged}
use Rattle.audit_replay.proofs.legality.first_illegal.Given as goal

abbrev pub invariant-loop-entry : goal.invariant-loop-entry
invariant-loop-entry l = Judged l.fn.book l.history l.entry-index l.book l.turn
