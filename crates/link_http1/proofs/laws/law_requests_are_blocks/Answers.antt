use Rattle.link_http1.proofs.RequestLemmas.{no-request, request-shortest}
use Rattle.link_http1.proofs.laws.law_requests_are_blocks.Goals as goal

pub returns-clause-blocks : goal.returns-clause-blocks
returns-clause-blocks c = request-shortest

pub returns-clause-before : goal.returns-clause-before
returns-clause-before c = no-request
