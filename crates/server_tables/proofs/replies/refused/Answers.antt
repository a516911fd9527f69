use Rattle.std.proofs.Common.{◌∙◌}
use Rattle.server_tables.proofs.ReplyLemmas.{refused-bytes}
use Rattle.server_tables.proofs.replies.refused.Goals as goal

pub returns : goal.returns
returns c = λ i. record { status = 403; bytes = (c.in_ok-of.ensures ∙ refused-bytes) i }
