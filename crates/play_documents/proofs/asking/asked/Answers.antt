use Rattle.play_documents.proofs.Words.{refl}
use Rattle.play_documents.proofs.PartLemmas.{asked-begun, plays-after, plays-unbegun, stands-as}
use Rattle.play_documents.proofs.asking.asked.Goals as goal

pub returns-in_err-start_fetch-clause-came : goal.returns-in_err-start_fetch-clause-came
returns-in_err-start_fetch-clause-came g c = plays-unbegun _ _ c.from_residual.result c.from_residual.ensures.0
    (stands-as refl refl c.in_err-start_fetch.ensures.err)

pub returns-clause-came : goal.returns-clause-came
returns-clause-came g c = plays-after _ _ _ c.request.result
    (asked-begun c.args.kind c.args.made refl refl c.in_ok-start_fetch.ensures.ok)
    c.request.ensures.came
