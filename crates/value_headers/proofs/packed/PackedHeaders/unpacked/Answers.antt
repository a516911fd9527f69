use Rattle.std.proofs.Common.{add-one}
use Rattle.value_headers.proofs.PackLemmas.{taken}
use Rattle.value_headers.proofs.packed.PackedHeaders.unpacked.Goals as goal

pub loop-place-preserved : goal.loop-place-preserved
loop-place-preserved c =
    let bytes = c.self.inside.bytes.items in
    let places = c.self.inside.places.items in
    rw (
      add-one,
      c.in_ok-push.ensures.items,
      c.in_ok-field_in.ensures,
      c.loop-place.invariant,
      c.as_slice.ensures.value,
      c.as_slice-place-items.ensures.value,
      ← c.self.view_is,
    ) (taken bytes places c.loop-place.place-index _
    (rw (← c.as_slice-place-items.ensures.value) c.loop-place-test.true))
