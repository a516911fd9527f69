use Rattle.book_preflights.proofs.KeyLaws.{entries_of-cleared}
use Rattle.book_preflights.proofs.laws.law_clears.Goals as goal

pub returns : goal.returns
returns c = λ key other origin url cache. entries_of-cleared key origin url other cache
