use Rattle.play_threads.proofs.Words.{◌≡◌}
use Rattle.play_threads.proofs.threads.listed.Given as goal

abbrev pub invariant-loop-transcript : goal.invariant-loop-transcript
invariant-loop-transcript l = l.list ≡ l.yielded
