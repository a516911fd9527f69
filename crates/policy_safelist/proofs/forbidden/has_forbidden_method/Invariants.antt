use Rattle.std.proofs.Common.{◌≡◌, drop}
use Rattle.std.specs.List.{list_any}
use Rattle.policy_safelist.specs.Forbidden.{is_forbidden_method}
use Rattle.policy_safelist.proofs.forbidden.has_forbidden_method.Given as goal

abbrev pub invariant-loop-index : goal.invariant-loop-index
invariant-loop-index l = list_any is_forbidden_method l.methods ≡ list_any is_forbidden_method (drop l.index l.methods)
