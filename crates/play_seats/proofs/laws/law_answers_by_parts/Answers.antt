use Rattle.play_seats.proofs.SimLemmas.{answers-by_parts}
use Rattle.play_seats.proofs.laws.law_answers_by_parts.Goals as goal

pub returns : goal.returns
returns c = answers-by_parts
