use Rattle.audit_verdict.proofs.OnceLemmas.{one-verdict}
use Rattle.audit_verdict.proofs.laws.law_one_verdict.Goals as goal

pub returns : goal.returns
returns c = one-verdict c.law_one_reading.ensures.history c.law_one_reading.ensures.reading c.law_one_play.ensures.plays
