use Rattle.std.proofs.Common.{◌++◌, ◌∙◌, List, ℕ, ap, arith, length-append}
use Rattle.value_headers.proofs.PackLemmas.{one_more}
use Rattle.value_headers.proofs.packed.add.Goals as goal

pub returns-clause-headers : goal.returns-clause-headers
returns-clause-headers c =
    let front = c.in_ok-extend_from_slice.ensures.items in
    let both = c.in_ok-extend_from_slice-2.ensures.items ∙ ap (λ (l : List ℕ). l ++ c.args.value.now) front in
    let place = c.in_ok-of.field-0 in
    rw (c.in_ok-push.ensures.items, both)
    (one_more c.args.bytes.now.items c.args.name.now c.args.value.now c.args.places.now.items place c.requires
    (grind (arith, c.in_ok-of.ensures)) (grind (arith, c.in_ok-of.ensures, length-append))
    (grind (arith, c.in_ok-of.ensures, length-append)))
