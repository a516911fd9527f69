use Rattle.audit_verdict.proofs.LawLemmas.{is-complete, is-sound}
use Rattle.audit_verdict.proofs.laws.law_audited.Goals as goal

pub returns-clause-audited : goal.returns-clause-audited
returns-clause-audited c = is-sound c.law_isolated.ensures

pub returns-clause-complete : goal.returns-clause-complete
returns-clause-complete c = is-complete
