use Rattle.script_filling.proofs.FillingLemmas.{load-same, plain-load-filled}
use Rattle.fetch_requests.specs.Loading.{new_load}
use Rattle.value_requests.specs.declared.init.LoadInit.{LoadInit}
use Rattle.play_documents.proofs.Words.{◌∙◌, ◌≡◌, IfOk, Request, Result, TypeFault, ap, filled_load, lent_result}
use Rattle.play_documents.proofs.Words.{subst, sym}
use Rattle.play_documents.proofs.asking.requested_load.Goals as goal

pub returns-then-is_plain_load-clause-value : goal.returns-then-is_plain_load-clause-value
returns-then-is_plain_load-clause-value g c =
    let plain = sym c.is_plain_load.ensures ∙ c.if-is_plain_load.true in
    subst (λ (i : LoadInit). IfOk c.new_load.result (λ made. made ≡ new_load c.args.lent.now.client.now i))
    (sym (plain-load-filled (lent_result c.args.last) c.args.init.now plain))
    c.new_load.ensures.request

pub returns-clause-value : goal.returns-clause-value
returns-clause-value g c =
    let client = c.args.lent.now.client.now in
    subst (λ (r : Result Request TypeFault). IfOk c.new_load-2.result (λ made. made ≡ r))
    (ap (new_load client) c.in_ok-filled.ensures
    ∙ load-same client (filled_load (lent_result c.args.last) c.args.init.now)) c.new_load-2.ensures.request
