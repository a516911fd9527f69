use Rattle.play_laws.proofs.TranscriptLemmas.{calls-follow}
use Rattle.play_laws.proofs.laws.law_same_calls.Goals as goal

pub returns : goal.returns
returns g c = calls-follow c.law_one_end.ensures g.L.Link.State
