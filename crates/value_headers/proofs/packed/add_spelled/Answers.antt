use Rattle.std.proofs.Common.{◌++◌, ◌∙◌, List, ℕ, ap, arith, length-append}
use Rattle.value_headers.specs.Private.Packs.{header_at}
use Rattle.value_headers.proofs.PackLemmas.{one_more}
use Rattle.value_headers.proofs.packed.add_spelled.Goals as goal

pub returns-clause-headers : goal.returns-clause-headers
returns-clause-headers c =
    let bytes = c.args.bytes.now.items in
    let name = (header_at bytes c.args.spelled).name in
    let value = c.args.value.now in
    let front = c.in_ok-extend_from_within.ensures.items in
    let both = c.in_ok-extend_from_slice.ensures.items ∙ ap (λ (l : List ℕ). l ++ value) front in
    let place = c.in_ok-of.field-0 in
    rw (c.in_ok-push.ensures.items, both)
    (one_more bytes name value c.args.places.now.items place c.requires.within
    (grind (arith, c.in_ok-of.ensures)) (grind (arith, c.in_ok-of.ensures, length-append))
    (grind (arith, c.in_ok-of.ensures, length-append)))
