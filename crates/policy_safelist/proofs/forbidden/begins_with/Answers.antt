use Rattle.std.proofs.Common.{arith}
use Rattle.std.proofs.lemmas.Grind.{common_steps}
use Rattle.policy_safelist.proofs.ForbiddenLemmas.{begins_with-longer}
use Rattle.policy_safelist.proofs.forbidden.begins_with.Goals as goal

pub returns-else-text-prefix : goal.returns-else-text-prefix
returns-else-text-prefix c = grind (arith, common_steps, begins_with-longer)
