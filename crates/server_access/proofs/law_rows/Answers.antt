use Rattle.server_access.proofs.RowLemmas.{rows-read}
use Rattle.server_access.proofs.law_rows.Goals as goal

pub returns : goal.returns
returns c = rows-read
