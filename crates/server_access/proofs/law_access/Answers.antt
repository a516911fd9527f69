use Rattle.server_access.proofs.AccessLemmas.{access}
use Rattle.server_access.proofs.law_access.Goals as goal

pub returns : goal.returns
returns g c =
    access g.L.Link.State c.law_one_request.ensures.one c.law_requests_heard.ensures c.law_replies_heard.ensures.heard
    c.law_replies_heard.ensures.there
