use Rattle.play_documents.proofs.Words.{document_run, outside, over_link}
use Rattle.play_documents.proofs.RunLemmas.{run-unbegun}
use Rattle.play_documents.proofs.document.ByFetchesDriver.drive.Goals as goal

pub returns-in-Err-clause-came : goal.returns-in-Err-clause-came
returns-in-Err-clause-came g c = λ one is. rw c.new-in-Err.ensures (run-unbegun (over_link g.L.Link.serves)
    c.args.scenario.now.body_limit (g.S.Share.account c.args.pass.now).document
    (document_run c.args.scenario.now.cookies c.args.base one)
    (outside g.S.Share.account g.L.Link.told c.args.pass.now c.args.link.now)
    (outside g.S.Share.account g.L.Link.told c.run_document.new.pass c.run_document.new.link) c.in-Err.ensures.unbegun)
