use Rattle.std.proofs.Common.{◌≡◌, map}
use Rattle.policy_safelist.proofs.sets.listed.Given as goal

abbrev pub invariant-loop-text : goal.invariant-loop-text
invariant-loop-text l = l.list ≡ map (λ text. text.items) l.yielded
