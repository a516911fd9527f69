use Rattle.std.proofs.Common.{arith}
use Rattle.std.proofs.lemmas.Grind.{common_steps}
use Rattle.value_headers.proofs.HeaderLemmas.{with_only-missing}
use Rattle.value_headers.proofs.headers.set_in.Goals as goal

pub returns-in_ok-push-clause-ok : goal.returns-in_ok-push-clause-ok
returns-in_ok-push-clause-ok c = grind (arith, common_steps, with_only-missing)
