use Rattle.std.proofs.Common.{◌++◌, ◌∙◌, List, ℕ, ap, append_assoc, arith, length-append, sym}
use Rattle.value_headers.proofs.PackLemmas.{one_more}
use Rattle.value_headers.proofs.packed.add_field.Goals as goal

pub returns-clause-headers : goal.returns-clause-headers
returns-clause-headers c =
    let bytes = c.args.bytes.now.items in
    let name = c.args.field.now.name in
    let value = c.args.field.now.value in
    let both = c.in_ok-extend_from_slice.ensures.items ∙ ap (λ (l : List ℕ). bytes ++ l) c.both-named.ensures.both
    ∙ sym (append_assoc bytes name value) in
    let place = c.in_ok-of.field-0 in
    rw (c.in_ok-push.ensures.items, both)
    (one_more bytes name value c.args.places.now.items place c.requires
    (grind (arith, c.in_ok-of.ensures)) (grind (arith, c.in_ok-of.ensures, length-append))
    (grind (arith, c.in_ok-of.ensures, length-append)))
