use Rattle.audit_text.proofs.ReadLemmas.{one-history}
use Rattle.audit_text.proofs.laws.law_one_history.Goals as goal

pub returns : goal.returns
returns c = one-history
