use Rattle.std.proofs.Common.{◌≡◌, drop}
use Rattle.value_headers.specs.Headers.{values_of}
use Rattle.value_lists.specs.Split.{split_values}
use Rattle.value_lists.proofs.SplitLemmas.{goes_on}
use Rattle.value_lists.proofs.split.split_in.Given as goal

abbrev pub invariant-loop-header : goal.invariant-loop-header
invariant-loop-header l = split_values l.name l.headers
    ≡ goes_on l.found l.splitter (values_of l.name (drop l.header-index l.headers))
