use Rattle.play_fetch.proofs.Words.{on_err_weaker, received-none, rules}
use Rattle.play_fetch.proofs.act.answer.Goals as goal

pub returns-in-Ask-clause-refused : goal.returns-in-Ask-clause-refused
returns-in-Ask-clause-refused g c = on_err_weaker c.ask.result
    (λ is. search (rules, is, received-none (g.L.Link.told c.args.player.now.link.now).received)) c.ask.ensures.refused

pub returns-in-Send-clause-refused : goal.returns-in-Send-clause-refused
returns-in-Send-clause-refused g c =
    on_err_weaker c.send.result (λ is. search (rules, is)) c.send.ensures.refused

pub returns-in-ReadHead-clause-refused : goal.returns-in-ReadHead-clause-refused
returns-in-ReadHead-clause-refused g c =
    on_err_weaker c.read_head.result (λ is. search (rules, is)) c.read_head.ensures.refused

pub returns-in-ReadBody-clause-refused : goal.returns-in-ReadBody-clause-refused
returns-in-ReadBody-clause-refused g c =
    on_err_weaker c.read_body.result (λ is. search (rules, is)) c.read_body.ensures.refused
