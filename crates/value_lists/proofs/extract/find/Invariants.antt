use Rattle.std.proofs.Common.{drop}
use Rattle.value_headers.specs.Headers.{values_of}
use Rattle.value_lists.specs.Private.Finding.{FoundBefore}
use Rattle.value_lists.proofs.extract.find.Given as goal

abbrev pub invariant-loop-header : goal.invariant-loop-header
invariant-loop-header l = FoundBefore l.found (values_of l.name (drop l.header-index l.headers))
    (values_of l.name l.headers)
