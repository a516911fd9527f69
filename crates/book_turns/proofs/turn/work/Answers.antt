use Rattle.book_calls.proofs.SoloLemmas.{kind-of}
use Rattle.book_turns.proofs.turn.work.Goals as goal

pub returns-clause-kind : goal.returns-clause-kind
returns-clause-kind c = kind-of _ c.args.op c.apply.result c.apply.ensures.reply
