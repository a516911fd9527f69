use Rattle.server_access.proofs.ReadableLemmas.{plain-readable}
use Rattle.server_access.proofs.law_readable.Goals as goal

pub returns : goal.returns
returns c = plain-readable
