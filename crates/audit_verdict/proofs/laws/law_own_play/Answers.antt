use Rattle.audit_verdict.proofs.OwnLemmas.{accepts-plays}
use Rattle.audit_verdict.proofs.laws.law_own_play.Goals as goal

pub returns : goal.returns
returns c = accepts-plays c.law_printed.ensures c.law_own_words.ensures.plays c.law_few_calls.ensures.plays
