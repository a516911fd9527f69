use Rattle.script_filling.proofs.FillingLemmas.{cut-same, plain-filled}
use Rattle.fetch_requests.specs.Making.{new_request}
use Rattle.value_requests.specs.declared.init.Init.{Init}
use Rattle.play_documents.proofs.Words.{◌∙◌, ◌≡◌, IfOk, Request, Result, TypeFault, ap, filled_init, lent_result}
use Rattle.play_documents.proofs.Words.{subst, sym}
use Rattle.play_documents.proofs.asking.requested.Goals as goal

pub returns-then-is_plain-clause-value : goal.returns-then-is_plain-clause-value
returns-then-is_plain-clause-value g c =
    subst (λ (i : Init). IfOk c.new_request.result (λ made. made ≡ new_request c.args.lent.now.client.now i))
    (sym (plain-filled (lent_result c.args.last) c.args.init.now (sym c.is_plain.ensures ∙ c.if-is_plain.true)))
    c.new_request.ensures.request

pub returns-clause-value : goal.returns-clause-value
returns-clause-value g c =
    let client = c.args.lent.now.client.now in
    subst (λ (r : Result Request TypeFault). IfOk c.new_request-2.result (λ made. made ≡ r))
    (ap (new_request client) c.in_ok-filled.ensures
    ∙ cut-same client (filled_init (lent_result c.args.last) c.args.init.now)) c.new_request-2.ensures.request
