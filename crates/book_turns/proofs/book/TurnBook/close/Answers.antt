use Rattle.std.proofs.Common.{◌≡◌, ◌∙◌, ap, sym}
use Rattle.std.proofs.lemmas.List.Sorted.{All-permutation}
use Rattle.std.proofs.lemmas.List.Elements.{All-head, All-tail}
use mathlib.Core.Option.{some, some-injective}
use Rattle.book_turns.specs.declared.view.View.{View}
use Rattle.book_turns.specs.declared.pass.TurnPass.{TurnPass}
use Rattle.book_turns.proofs.Ends.{closes}
use Rattle.book_turns.proofs.Back.{whole-here, one_history}
use Rattle.book_turns.proofs.book.TurnBook.close.Goals as goal

pub gather-requires-clause-table : goal.gather-requires-clause-table
gather-requires-clause-table c = let P = λ (p : TurnPass). p.seat.table_id ≡ c.args.self.table.shared.table_id in
    (All-head P _ _ (All-permutation P _ _ c.take_first-first.ensures.rest c.requires.belong), c.args.self.sized.0)

pub gather-requires-clause-belong : goal.gather-requires-clause-belong
gather-requires-clause-belong c = let P = λ (p : TurnPass). p.seat.table_id ≡ c.args.self.table.shared.table_id in
    All-tail P _ _ (All-permutation P _ _ c.take_first-first.ensures.rest c.requires.belong)

pub close_with-closed-requires : goal.close_with-closed-requires
close_with-closed-requires c = let P = λ (p : TurnPass). p.seat.table_id ≡ c.args.self.table.shared.table_id in
    c.gather.ensures.table ∙ All-head P _ _ (All-permutation P _ _ c.take_first-first.ensures.rest c.requires.belong)

pub unreachable-requires : goal.unreachable-requires
unreachable-requires c =
    let first = c.take_first-first.result in let rest = c.take_first-first.new.passes.items in let v =
    c.gather.new.first.me.0 in let r = first.rests in
    let taken = c.gather.ensures.taken in
    let cl = closes _ v _ _ c.close_with-closed.ensures.values.2 (ap (λ (x : View). x.live) taken
    ∙ r.2) (ap (λ (x : View). x.document) taken ∙ (r.1 ∙ c.take_first-first.ensures.first))
    (ap (λ (x : View). x.served) taken ∙ r.4)
    (whole-here c.args.passes.items rest first c.take_first-first.ensures.rest c.take_first-first.ensures.first
    c.args.self.table.shared.table_id c.requires v taken) in
    c.in_default.not-Some _ (some-injective _ _ (sym c.take-taken.ensures.value ∙ cl.desk_is))

pub returns : goal.returns
returns c =
    let first = c.take_first-first.result in let rest = c.take_first-first.new.passes.items in let v =
    c.gather.new.first.me.0 in let r = first.rests in
    let taken = c.gather.ensures.taken in
    let cl = closes _ v _ _ c.close_with-closed.ensures.values.2 (ap (λ (x : View). x.live) taken
    ∙ r.2) (ap (λ (x : View). x.document) taken ∙ (r.1 ∙ c.take_first-first.ensures.first))
    (ap (λ (x : View). x.served) taken ∙ r.4)
    (whole-here c.args.passes.items rest first c.take_first-first.ensures.rest c.take_first-first.ensures.first
    c.args.self.table.shared.table_id c.requires v taken) in
    one_history c.args.passes.items rest first c.take_first-first.ensures.rest c.take_first-first.ensures.first
    c.args.self.table.shared.table_id c.requires v taken _ cl _ _ (c.take-taken.ensures.value
    ∙ ap some c.in-Some.is)
