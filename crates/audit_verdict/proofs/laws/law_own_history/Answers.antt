use Rattle.audit_verdict.proofs.OwnLemmas.{holds-history, one-history}
use Rattle.audit_verdict.proofs.laws.law_own_history.Goals as goal

pub returns-clause-holds : goal.returns-clause-holds
returns-clause-holds g c =
    holds-history c.law_printed.ensures g.L.Link.State c.law_own_words.ensures.plays c.law_few_calls.ensures.plays

pub returns-clause-one : goal.returns-clause-one
returns-clause-one g c =
    one-history c.law_printed.ensures c.law_one_reading.ensures.history g.L.Link.State g.M.Link.State
    c.law_own_words.ensures.plays c.law_few_calls.ensures.plays c.law_own_words-2.ensures.plays
    c.law_few_calls-2.ensures.plays
