use Rattle.std.proofs.Common.{rules, ap, ◌∙◌}
use Rattle.book_turns.specs.Private.Steps.{Sat}
use Rattle.book_turns.proofs.Moves.{looks}
use Rattle.book_turns.proofs.turn.wait.Goals as goal

pub load-requires : goal.load-requires
load-requires g c =
    let same = c.loop.invariant.4 in let q = c.requires.waits in (
      search rules,
      search rules,
      looks _ _ _ (ap (λ (m : Sat). m.0.live) same ∙ q.0) (ap (λ (m : Sat). m.0.waits) same
          ∙ q.1) (ap (λ (m : Sat). m.0.served) same ∙ q.2),
    )
