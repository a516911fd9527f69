use Rattle.std.proofs.Common.{◌≡◌, drop}
use Rattle.book_hosts.specs.Field.{has_twice}
use Rattle.book_hosts.proofs.TwiceLemmas.{names_twice}
use Rattle.book_hosts.proofs.sts.has_twice.Given as goal

abbrev pub invariant-loop-directive : goal.invariant-loop-directive
invariant-loop-directive l = names_twice l.names.keys (drop l.directive-index l.directives) ≡ has_twice l.directives
