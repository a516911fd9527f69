use Rattle.std.proofs.Common.{◌∙◌, sym}
use Rattle.fetch_requests.proofs.RequestLemmas.{made-valid}
use Rattle.fetch_requests.proofs.make.new_request.Goals as goal

pub returns-clause-valid : goal.returns-clause-valid
returns-clause-valid c = made-valid c.args.client.now c.args.init.now c.in-Ok.url c.in_ok-request.request
    (sym c.fault_of.ensures ∙ c.in_default.is) c.in_ok-request.ensures
