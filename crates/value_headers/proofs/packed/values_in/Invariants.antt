use Rattle.std.proofs.Common.{◌≡◌, drop, false, map, []}
use Rattle.value_headers.specs.Headers.{combined, values_of}
use Rattle.value_headers.specs.Private.Packs.{header_at}
use Rattle.value_headers.proofs.HeaderLemmas.{onto}
use Rattle.value_headers.proofs.packed.values_in.Given as goal

abbrev pub invariant-loop-place : goal.invariant-loop-place
invariant-loop-place l = record {
  so_far : combined l.name (map (header_at l.bytes) l.places)
      ≡ onto l.found l.text.items (values_of l.name (map (header_at l.bytes) (drop l.place-index l.places)));
  nothing : l.found ≡ false → l.text.items ≡ [];
}
