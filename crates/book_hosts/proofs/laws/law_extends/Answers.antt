use Rattle.book_hosts.proofs.WalkLemmas.{extends-exactly}
use Rattle.book_hosts.proofs.laws.law_extends.Goals as goal

pub returns : goal.returns
returns c = extends-exactly
