use Rattle.link_http1.proofs.AnswerLemmas.{final-head-one}
use Rattle.link_http1.proofs.laws.law_one_head.Goals as goal

pub returns : goal.returns
returns c = final-head-one
