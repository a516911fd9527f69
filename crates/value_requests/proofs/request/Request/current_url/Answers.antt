use Rattle.value_requests.proofs.UrlLemmas.{last-got}
use Rattle.value_requests.proofs.request.Request.current_url.Goals as goal

pub returns : goal.returns
returns c = last-got _ _ _ _ c.requires c.len.ensures c.at.ensures
