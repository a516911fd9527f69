use Rattle.std.proofs.Common.{rules, ◌≡◌, ◌≢◌, ◌∙◌, ℕ, List, ap, arith, sym, ◌<◌, subst, true}
use Rattle.book_turns.specs.Private.Steps.{Sat}
use Rattle.book_turns.specs.Private.Sums.{often}
use Rattle.book_turns.proofs.Seats.{names, forks}
use Rattle.book_turns.proofs.Sums.{times-often}
use Rattle.book_turns.proofs.book.TurnBook.pass.Goals as goal

pub compare_exchange-requires : goal.compare_exchange-requires
compare_exchange-requires c = (search rules, search rules, names _ _ _ _)

pub split_seat-seat-requires : goal.split_seat-seat-requires
split_seat-seat-requires c =
    let e = c.compare_exchange.ensures.2 in let r = c.args.parent.now.rests in
    let next : c.compare_exchange.new.seat.me.0.next ≡ c.args.document = ap (λ (m : Sat). m.0.next) e
    ∙ c.from-word.ensures in
    let not-first : c.args.document ≢ 4294967295 = c.requires.fresh.0 in
    let near : c.args.document < 4294967296 = omega arith in
    let live : c.compare_exchange.new.seat.me.0.live ≡ true = ap (λ (m : Sat). m.0.live) e ∙ r.2 in
    let document : c.compare_exchange.new.seat.me.0.document ≡ 4294967295 = ap (λ (m : Sat). m.0.document) e
    ∙ (r.1 ∙ c.requires.first) in
    let made : c.compare_exchange.new.seat.me.0.made ≡ c.args.parent.now.seat.me.0.made = ap (λ (m : Sat). m.0.made) e
    in (
      search rules,
      search rules,
      forks _ _ live document (omega arith)
          (subst (λ (l : List ℕ). often c.compare_exchange.new.seat.me.0.next l
          ≡ 0) (sym made) (ap (λ (k : ℕ). often k c.args.parent.now.seat.me.0.made) next
          ∙ sym (times-often c.args.document c.args.parent.now.seat.me.0.made) ∙ c.requires.fresh.1)),
    )
