use Rattle.server_heard.proofs.ReplyLemmas.{reply-heard, reply-has-head}
use Rattle.server_heard.proofs.law_replies_heard.Goals as goal

pub returns-clause-heard : goal.returns-clause-heard
returns-clause-heard c = reply-heard

pub returns-clause-there : goal.returns-clause-there
returns-clause-there c = reply-has-head
