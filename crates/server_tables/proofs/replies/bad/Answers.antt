use Rattle.std.proofs.Common.{◌∙◌}
use Rattle.server_tables.proofs.ReplyLemmas.{bad-bytes}
use Rattle.server_tables.proofs.replies.bad.Goals as goal

pub returns : goal.returns
returns c = λ i. record { status = 400; bytes = (c.in_ok-of.ensures ∙ bad-bytes) i }
