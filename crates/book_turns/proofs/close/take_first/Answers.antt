use Rattle.std.proofs.Common.{◌<◌, subst, List, length}
use Rattle.std.proofs.lemmas.List.Sorted.{IsPermutation-swap_remove}
use Rattle.book_turns.specs.declared.pass.TurnPass.{TurnPass}
use Rattle.book_turns.proofs.close.take_first.Goals as goal

pub returns-clause-rest : goal.returns-clause-rest
returns-clause-rest c =
    let at : c.first_at-at.result < length c.args.passes.now.items =
    subst (λ (l : List TurnPass). c.first_at-at.result < length l) c.as_slice.ensures.value
    c.first_at-at.ensures.bound in
    rw c.swap_remove.ensures.items
    (IsPermutation-swap_remove c.args.passes.now.items c.first_at-at.result c.swap_remove.result at
    c.swap_remove.ensures.value)
