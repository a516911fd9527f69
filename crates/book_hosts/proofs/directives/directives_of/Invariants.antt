use Rattle.std.proofs.Common.{◌≡◌, length, Some}
use Rattle.book_hosts.specs.Reading.{directives_of, with_more}
use Rattle.book_hosts.proofs.directives.directives_of.Given as goal

abbrev pub invariant-loop-directives : goal.invariant-loop-directives
invariant-loop-directives l = directives_of l.value ≡ with_more (Some l.directives) (directives_of l.rest)

abbrev pub decreases-loop-directives : goal.decreases-loop-directives
decreases-loop-directives l = length l.rest
