use Rattle.play_words.proofs.FewLemmas.{calls-few, plays-few}
use Rattle.play_words.proofs.laws.law_few_calls.Goals as goal

pub returns-clause-runs : goal.returns-clause-runs
returns-clause-runs g c = calls-few

pub returns-clause-plays : goal.returns-clause-plays
returns-clause-plays g c = plays-few g.L.Link.State
