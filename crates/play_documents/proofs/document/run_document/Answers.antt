use Rattle.play_documents.proofs.Words.{outside, refl}
use Rattle.play_definitions.proofs.WorldLemmas.{outside-is}
use Rattle.play_documents.proofs.RunLemmas.{run-of}
use Rattle.play_documents.proofs.document.run_document.Goals as goal

pub returns-clause-came : goal.returns-clause-came
returns-clause-came g c =
    let made = c.in_ok-wire.ensures in
    rw (
      ← outside-is (outside g.S.Share.account g.L.Link.told c.args.pass.now c.new.new.link)
          (outside g.S.Share.account g.L.Link.told c.args.pass.now c.args.link.now) made.state made.received
          made.faults refl
          refl,
      ← run-of c.args.document.now c.in_ok-client.client c.in_ok-policies.policies c.args.scenario.now.cookies
          c.args.base c.in_ok-client.ensures c.in_ok-policies.ensures,
    ) c.play_script.ensures.came
