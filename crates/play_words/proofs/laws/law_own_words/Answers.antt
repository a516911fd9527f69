use Rattle.play_words.proofs.PlayWordLemmas.{plays-told}
use Rattle.play_words.proofs.RunWordLemmas.{events-plain}
use Rattle.play_words.proofs.laws.law_own_words.Goals as goal

pub returns-clause-events : goal.returns-clause-events
returns-clause-events g c = events-plain

pub returns-clause-plays : goal.returns-clause-plays
returns-clause-plays g c = plays-told g.L.Link.State
