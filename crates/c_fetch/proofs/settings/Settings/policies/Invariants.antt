use Rattle.std.proofs.Common.{◌≡◌, ◌++◌, drop}
use Rattle.c_fetch.specs.Settings.{policies_in}
use Rattle.c_fetch.proofs.settings.Settings.policies.Given as goal

abbrev pub invariant-loop-given : goal.invariant-loop-given
invariant-loop-given l = l.policies ++ policies_in (drop l.given-index l.given-items) ≡ policies_in l.given-items
