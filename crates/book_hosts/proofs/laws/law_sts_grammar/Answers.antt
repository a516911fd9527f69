use Rattle.book_hosts.proofs.StsLemmas.{reads-the-grammar}
use Rattle.book_hosts.proofs.laws.law_sts_grammar.Goals as goal

pub returns : goal.returns
returns c = reads-the-grammar
