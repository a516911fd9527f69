use Rattle.std.proofs.Common.{◌≡◌, ◌+◌, drop}
use Rattle.value_headers.specs.Private.Places.{first_of}
use Rattle.value_headers.proofs.headers.first_named.Given as goal

abbrev pub invariant-loop-index : goal.invariant-loop-index
invariant-loop-index l = first_of l.name l.headers ≡ first_of l.name (drop l.index l.headers) + l.index
