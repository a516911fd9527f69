use Rattle.play_laws.proofs.TranscriptLemmas.{plays-once, tapes-once}
use Rattle.play_laws.proofs.laws.law_one_play.Goals as goal

pub returns-clause-tapes : goal.returns-clause-tapes
returns-clause-tapes g c = tapes-once c.law_one_end.ensures g.L.Link.State

pub returns-clause-plays : goal.returns-clause-plays
returns-clause-plays g c = plays-once c.law_one_end.ensures
