use Rattle.play_documents.proofs.Words.{refl}
use Rattle.play_documents.proofs.PartLemmas.{played-none, plays-after, plays-unbegun}
use Rattle.play_documents.proofs.asking.fetch_command.Goals as goal

pub returns-in_err-made-clause-came : goal.returns-in_err-made-clause-came
returns-in_err-made-clause-came g c = plays-unbegun _ _ c.from_residual.result c.from_residual.ensures.0 refl

pub returns-clause-came : goal.returns-clause-came
returns-clause-came g c = plays-after _ _ _ c.asked.result
    (rw (← c.last.ensures, ← c.in_ok-made.ensures.value) played-none) c.asked.ensures.came
