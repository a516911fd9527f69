use Rattle.play_serial.specs.Private.SoFar.{CameSoFar}
use Rattle.play_serial.proofs.in_turn.play_with_book.Given as goal

-- the documents so far were played
abbrev pub invariant-loop-number : goal.invariant-loop-number
invariant-loop-number l = CameSoFar l.fn.scenario l.number l.so_far
