use Rattle.play_isolation.proofs.HistoryLemmas.{calls-in_range, calls-own}
use Rattle.play_isolation.proofs.laws.law_own_calls.Goals as goal

pub returns-clause-key : goal.returns-clause-key
returns-clause-key c = calls-own

pub returns-clause-range : goal.returns-clause-range
returns-clause-range c = calls-in_range
