use Rattle.book_hosts.proofs.StsLemmas.{ages-bounded}
use Rattle.book_hosts.proofs.laws.law_ages.Goals as goal

pub returns : goal.returns
returns c = ages-bounded
