use Rattle.std.proofs.Common.{◌≡◌, All, length, map, take}
use Rattle.value_headers.specs.Private.Packs.{IsWithin, header_at}
use Rattle.value_headers.proofs.packed.PackedHeaders.of.Given as goal

abbrev pub invariant-loop-header : goal.invariant-loop-header
invariant-loop-header l =
    All (IsWithin (length l.bytes.items)) l.places.items
    × (map (header_at l.bytes.items) l.places.items ≡ take l.header-index l.headers)
