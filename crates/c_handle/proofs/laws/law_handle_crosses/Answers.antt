use Rattle.c_handle.proofs.Crossing.{handle_sent}
use Rattle.c_handle.proofs.laws.law_handle_crosses.Goals as goal

pub returns : goal.returns
returns c = handle_sent
