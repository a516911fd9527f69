use Rattle.book_preflights.proofs.CacheLaws.{changes-keep-caches}
use Rattle.book_preflights.proofs.laws.law_caches.Goals as goal

pub returns : goal.returns
returns c = changes-keep-caches
