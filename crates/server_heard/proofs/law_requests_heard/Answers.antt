use Rattle.server_heard.proofs.HopLemmas.{request-heard}
use Rattle.server_heard.proofs.law_requests_heard.Goals as goal

pub returns : goal.returns
returns c = request-heard
