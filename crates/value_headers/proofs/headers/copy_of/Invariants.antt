use Rattle.std.proofs.Common.{◌≡◌, take}
use Rattle.value_headers.proofs.headers.copy_of.Given as goal

abbrev pub invariant-loop-header : goal.invariant-loop-header
invariant-loop-header l = l.copy.items ≡ take l.header-index l.headers
