use Rattle.std.proofs.Common.{◌≡◌, take}
use Rattle.value_headers.proofs.packed.PackedHeaders.unpacked.Given as goal

abbrev pub invariant-loop-place : goal.invariant-loop-place
invariant-loop-place l = l.fields.items ≡ take l.place-index l.self
