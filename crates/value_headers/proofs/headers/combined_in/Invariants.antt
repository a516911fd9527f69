use Rattle.std.proofs.Common.{◌≡◌, drop, false, []}
use Rattle.value_headers.specs.Headers.{combined, values_of}
use Rattle.value_headers.proofs.HeaderLemmas.{onto}
use Rattle.value_headers.proofs.headers.combined_in.Given as goal

abbrev pub invariant-loop-header : goal.invariant-loop-header
invariant-loop-header l = record {
  so_far : combined l.name l.headers ≡ onto l.found l.text.items (values_of l.name (drop l.header-index l.headers));
  nothing : l.found ≡ false → l.text.items ≡ [];
}
