use Rattle.link_http1.proofs.RequestLemmas.{read-more, read-once}
use Rattle.link_http1.proofs.laws.law_one_request.Goals as goal

pub returns-clause-one : goal.returns-clause-one
returns-clause-one c = read-once

pub returns-clause-stays : goal.returns-clause-stays
returns-clause-stays c = read-more
