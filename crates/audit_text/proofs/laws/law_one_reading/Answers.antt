use Rattle.audit_text.proofs.OneLemmas.{one-text}
use Rattle.audit_text.proofs.OnceLemmas.{reads-once}
use Rattle.audit_text.proofs.laws.law_one_reading.Goals as goal

pub returns-clause-history : goal.returns-clause-history
returns-clause-history c = one-text c.law_one_history.ensures

pub returns-clause-reading : goal.returns-clause-reading
returns-clause-reading c = reads-once c.law_one_history.ensures
