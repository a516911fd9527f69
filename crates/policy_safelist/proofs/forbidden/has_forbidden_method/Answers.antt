use Rattle.std.proofs.Common.{arith}
use Rattle.policy_safelist.specs.Forbidden.{is_forbidden_method}
use Rattle.policy_safelist.proofs.ForbiddenLemmas.{any-from}
use Rattle.policy_safelist.proofs.forbidden.has_forbidden_method.Goals as goal

pub returns-then-is_forbidden_method : goal.returns-then-is_forbidden_method
returns-then-is_forbidden_method c = let step =
    any-from is_forbidden_method c.args.methods.now c.loop-index.index c.at.result.now c.at.ensures in
    grind (arith, step)

pub loop-index-preserved : goal.loop-index-preserved
loop-index-preserved c = let step =
    any-from is_forbidden_method c.args.methods.now c.loop-index.index c.at.result.now c.at.ensures in
    grind (arith, step)
