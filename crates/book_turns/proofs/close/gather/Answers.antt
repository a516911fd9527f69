use Rattle.std.proofs.Common.{◌≡◌, ◌∙◌, ap, arith, Some}
use Rattle.std.proofs.lemmas.List.Elements.{All-pop}
use Rattle.book_turns.specs.declared.view.View.{View}
use Rattle.book_turns.specs.declared.pass.TurnPass.{TurnPass}
use Rattle.book_turns.proofs.Seats.{joins}
use Rattle.book_turns.proofs.Turns.{nothing_held}
use Rattle.book_turns.proofs.close.gather.Goals as goal

pub join_seat-requires : goal.join_seat-requires
join_seat-requires c =
    let r = c.in-Some.pass.rests in let i = c.loop-pass.invariant in
    let mine = All-pop (λ (p : TurnPass). p.seat.table_id ≡ c.args.shared.now.table_id) c.loop-pass.passes.items
    c.pop.new.self.items (Some c.in-Some.pass) c.in-Some.ensures.items i.belong in (
      i.same ∙ c.requires.table.0,
      mine.1,
      nothing_held c.in-Some.pass.seat.me.1 r.0,
      omega arith,
      joins _ _ _ _ (ap (λ (x : View). x.live) i.view ∙ c.requires.first.0) (ap (λ (x : View). x.document) i.view
          ∙ c.requires.first.1) r.2 r.3 r.4,
    )
