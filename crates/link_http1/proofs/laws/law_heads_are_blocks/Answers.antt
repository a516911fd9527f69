use Rattle.link_http1.proofs.HeadLemmas.{head-shortest}
use Rattle.link_http1.proofs.laws.law_heads_are_blocks.Goals as goal

pub returns : goal.returns
returns c = head-shortest
