use Rattle.link_http1.proofs.AnswerLemmas.{head-end-one}
use Rattle.link_http1.proofs.laws.law_one_end.Goals as goal

pub returns : goal.returns
returns c = head-end-one
