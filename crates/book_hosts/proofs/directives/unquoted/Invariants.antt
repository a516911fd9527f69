use Rattle.std.proofs.Common.{◌≡◌, ◌++◌, length, option_map}
use Rattle.book_hosts.specs.Reading.{unquoted}
use Rattle.book_hosts.proofs.directives.unquoted.Given as goal

abbrev pub invariant-loop-rest : goal.invariant-loop-rest
invariant-loop-rest l = unquoted l.text ≡ option_map (λ value. l.value.items ++ value) (unquoted l.rest)

abbrev pub decreases-loop-rest : goal.decreases-loop-rest
decreases-loop-rest l = length l.rest
