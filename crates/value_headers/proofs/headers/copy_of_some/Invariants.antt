use Rattle.std.proofs.Common.{◌≡◌, ◌++◌, drop, filter}
use Rattle.value_headers.proofs.headers.copy_of_some.Given as goal

abbrev pub invariant-loop-header : goal.invariant-loop-header
invariant-loop-header g l =
    let passing = g.T.HeaderTest.passing l.test in
    l.copy.items ++ filter passing (drop l.header-index l.headers) ≡ filter passing l.headers
