use Rattle.std.proofs.Common.{◌∙◌, ap, sym, true≢false}
use Rattle.value_headers.proofs.HeaderLemmas.{onto, onto-added}
use Rattle.value_headers.proofs.PackLemmas.{values_named, values_other}
use Rattle.value_headers.proofs.packed.values_in.Goals as goal
use Rattle.value_headers.proofs.packed.values_in.Goals.{then-is_named+in_ok-add_value, else-is_named}

pub loop-place-preserved : goal.loop-place-preserved
loop-place-preserved c =
    let name = c.args.name.now in
    let bytes = c.args.bytes.now in
    let places = c.args.places.now in
    let at = c.loop-place.place-index in
    let so_far = c.loop-place.invariant.so_far in
    let joined = onto c.loop-place.found c.loop-place.text.items in
    elim c.if-is_named.branch [
      | then-is_named+in_ok-add_value w ↦
          let here = values_named name bytes places at _ c.loop-place-test.true (sym w.if-is_named.ensures) in
          rw (w.found-is, w.text-is, w.in_ok-add_value.ensures, w.value_in.ensures) (record {
            so_far = so_far ∙ ap joined here ∙ sym (onto-added _ _ _ _ c.loop-place.invariant.nothing);
            nothing = λ e. absurd (true≢false e);
          })
      | else-is_named w ↦
          let here = values_other name bytes places at _ c.loop-place-test.true (sym w.if-is_named.ensures) in
          rw (w.found-is, w.text-is) (record {
            so_far = so_far ∙ ap joined here;
            nothing = c.loop-place.invariant.nothing;
          })
    ]
