use Rattle.std.proofs.Common.{◌≡◌, drop, map}
use Rattle.value_headers.specs.Headers.{spelling}
use Rattle.value_headers.specs.Private.Packs.{header_at}
use Rattle.value_headers.proofs.packed.place_of.Given as goal

abbrev pub invariant-loop-place : goal.invariant-loop-place
invariant-loop-place l =
    spelling l.name (map (header_at l.bytes) l.places)
    ≡ spelling l.name (map (header_at l.bytes) (drop l.place-index l.places))
