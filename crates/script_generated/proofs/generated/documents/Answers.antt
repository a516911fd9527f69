use Rattle.script_generated.proofs.GeneratedLemmas.{one-more}
use Rattle.script_generated.proofs.generated.documents.Goals as goal

pub loop-index-preserved : goal.loop-index-preserved
loop-index-preserved c =
    one-more c.loop-index.index c.loop-index.documents c.push.new.self c.in_ok-document.field-0
    c.loop-index.invariant c.in_ok-document.ensures c.in_ok-push.ensures.ok
