use Rattle.std.proofs.Common.{◌≡◌, drop}
use Rattle.value_headers.specs.Headers.{spelling}
use Rattle.value_headers.proofs.headers.spelling_in.Given as goal

abbrev pub invariant-loop-header : goal.invariant-loop-header
invariant-loop-header l = spelling l.name l.headers ≡ spelling l.name (drop l.header-index l.headers)
