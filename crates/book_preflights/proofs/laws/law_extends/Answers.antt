use Rattle.book_preflights.proofs.WalkLemmas.{extends-exactly}
use Rattle.book_preflights.proofs.laws.law_extends.Goals as goal

pub returns : goal.returns
returns c = extends-exactly
