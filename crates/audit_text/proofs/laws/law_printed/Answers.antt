use Rattle.audit_text.proofs.PrintedLemmas.{printed-holds}
use Rattle.audit_text.proofs.laws.law_printed.Goals as goal

pub returns : goal.returns
returns c = printed-holds
