use Rattle.std.proofs.Common.{◌≡◌, drop}
use Rattle.value_lists.specs.Nosniff as spec
use Rattle.value_lists.proofs.sniffing.nosniff.Given as goal

abbrev pub invariant-loop-index : goal.invariant-loop-index
invariant-loop-index l = spec.nosniff l.headers ≡ spec.nosniff (drop l.index l.headers)
