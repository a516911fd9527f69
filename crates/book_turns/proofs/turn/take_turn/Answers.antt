use Rattle.std.proofs.Common.{rules, ◌≡◌, ◌∙◌, ℕ, sym, ap, refl, ◌∷◌, List, Some, arith, ◌<◌}
use Rattle.std.specs.declared.option.Option.{Option}
use Rattle.atomic_table.specs.Table.{rest}
use Rattle.book_calls.specs.Entries.{book_after}
use Rattle.book_turns.specs.Private.Rule.{desk}
use Rattle.book_turns.specs.Private.Steps.{Sat}
use Rattle.book_turns.specs.declared.desk.Desk.{Desk}
use Rattle.book_turns.proofs.Moves.{draws, notes}
use Rattle.book_turns.proofs.Turns.{held_is, ready, ready_passes, ready_extends, ready_whole}
use Rattle.book_turns.proofs.turn.take_turn.Goals as goal

pub fetch_add-ticket-requires : goal.fetch_add-ticket-requires
fetch_add-ticket-requires g c = let r = c.requires.rest in
    (search rules, search rules, draws _ _ _ r.2 r.3 r.4 c.requires.left)

pub exchange-requires : goal.exchange-requires
exchange-requires g c =
    let sv = c.wait.ensures.served in let m₁ = c.fetch_add-ticket.new.seat.me in let h = c.wait.new.seat.me.0.seen in
    let x : Option Desk = Some (desk (book_after m₁.0.opening h) h) in
    let at : c.wait.new.seat.me.1 ≡ (0, x) ∷ m₁.1 = ap (λ (m : Sat). m.1) sv.is in
    (search rules, (x, at ∙ ap (λ (l : List (ℕ × Option Desk)). (0, x) ∷ rest l) (sym at)))

pub load-requires : goal.load-requires
load-requires g c =
    let r = c.requires.rest in
    let is = held_is c.args.seat.now.me c.fetch_add-ticket.new.seat.me c.wait.new.seat.me c.exchange.new.seat.me
    c.exchange-2.new.seat.me c.fetch_add-ticket.result c.wait.new.seat.me.0.seen c.work-answer.new.desk r.0
    c.fetch_add-ticket.ensures.2.1 c.wait.ensures.served c.exchange.ensures.3 c.exchange-2.ensures.3 in
    (search rules, search rules, notes _ _ _ (ap (λ (m : Sat). m.0.served) is))

pub store-requires : goal.store-requires
store-requires g c = let r = c.requires.rest in let z : 0 < c.args.shared.now.table_id.slots = omega arith in (
  search rules,
  search rules,
  ready_passes _ _ _ c.args.seat.now.me c.load.new.seat.me c.fetch_add-ticket.result c.args.document
      c.wait.new.seat.me.0.seen c.args.op c.work-answer.new.desk c.work-answer.result
      (ready c.args.seat.now.me c.fetch_add-ticket.new.seat.me c.wait.new.seat.me c.exchange.new.seat.me
      c.exchange-2.new.seat.me c.load.new.seat.me _ _ _ _ c.in-Some.desk c.work-answer.new.desk c.exchange.result
      c.work-answer.result
      r.0 c.fetch_add-ticket.ensures.2.1 c.wait.ensures.served c.exchange.ensures.2 c.in-Some.is c.exchange.ensures.3
      c.exchange-2.ensures.3 c.load.ensures.2 c.work-answer.ensures.made) r.2 r.1 refl z,
)

pub returns-clause-ok : goal.returns-clause-ok
returns-clause-ok g c = let r = c.requires.rest in
    ready_extends c.args.seat.now.me c.load.new.seat.me c.store.new.seat.me c.fetch_add-ticket.result c.args.document
    c.wait.new.seat.me.0.seen c.args.op c.work-answer.new.desk c.work-answer.result
    (ready c.args.seat.now.me c.fetch_add-ticket.new.seat.me c.wait.new.seat.me c.exchange.new.seat.me
    c.exchange-2.new.seat.me c.load.new.seat.me _ _ _ _ c.in-Some.desk c.work-answer.new.desk c.exchange.result
    c.work-answer.result
    r.0 c.fetch_add-ticket.ensures.2.1 c.wait.ensures.served c.exchange.ensures.2 c.in-Some.is c.exchange.ensures.3
    c.exchange-2.ensures.3 c.load.ensures.2 c.work-answer.ensures.made) c.store.ensures.2

pub returns-clause-whole : goal.returns-clause-whole
returns-clause-whole g c = let r = c.requires.rest in
    ready_whole c.args.seat.now.me c.load.new.seat.me c.store.new.seat.me c.fetch_add-ticket.result c.args.document
    c.wait.new.seat.me.0.seen c.args.op c.work-answer.new.desk c.work-answer.result
    (ready c.args.seat.now.me c.fetch_add-ticket.new.seat.me c.wait.new.seat.me c.exchange.new.seat.me
    c.exchange-2.new.seat.me c.load.new.seat.me _ _ _ _ c.in-Some.desk c.work-answer.new.desk c.exchange.result
    c.work-answer.result
    r.0 c.fetch_add-ticket.ensures.2.1 c.wait.ensures.served c.exchange.ensures.2 c.in-Some.is c.exchange.ensures.3
    c.exchange-2.ensures.3 c.load.ensures.2 c.work-answer.ensures.made) r.1 c.store.ensures.2
