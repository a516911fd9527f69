use Rattle.std.proofs.Common.{◌∙◌, ap, sym}
use Rattle.server_tables.specs.Served.{reply_to}
use Rattle.server_tables.proofs.laws.law_one_reply.Goals as goal

pub returns : goal.returns
returns c = λ table bytes a b one two.
    one.2 ∙ ap (reply_to table) (c.law_one_request.ensures.one bytes one.0 two.0 one.1 two.1) ∙ sym two.2
