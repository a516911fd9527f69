use Rattle.audit_verdict.proofs.DocumentLemmas.{CameSoFar}
use Rattle.audit_verdict.proofs.runs.run_all.Given as goal

-- the documents so far came to their transcripts
abbrev pub invariant-loop-number : goal.invariant-loop-number
invariant-loop-number l = CameSoFar l.fn.scenario l.fn.history l.number l.transcripts
