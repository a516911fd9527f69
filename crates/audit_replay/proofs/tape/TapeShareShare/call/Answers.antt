use Rattle.audit_replay.proofs.TapeLemmas.{passed-call, passed-call-kind, strayed-call}
use Rattle.audit_replay.proofs.tape.TapeShareShare.call.Goals as goal

pub returns-in-Some-clause-ok : goal.returns-in-Some-clause-ok
returns-in-Some-clause-ok c =
    passed-call c.args.pass.now c.count.new.self c.replied.new.self c.args.op c.in-Some.reply c.count.ensures.tape
    c.count.ensures.counted (rw c.get.ensures at c.in-Some.ensures)

pub returns-in-Some-clause-kind : goal.returns-in-Some-clause-kind
returns-in-Some-clause-kind c =
    passed-call-kind c.args.pass.now c.count.new.self c.replied.new.self c.args.op c.in-Some.reply
    c.count.ensures.tape c.count.ensures.counted (rw c.get.ensures at c.in-Some.ensures)

pub returns-in-None-clause-ok : goal.returns-in-None-clause-ok
returns-in-None-clause-ok c =
    strayed-call c.args.pass.now c.count.new.self c.replied.new.self c.stray.new.self c.args.op c.stray.result
    c.count.ensures.tape c.count.ensures.counted c.in-None.ensures.0 c.stray.ensures.ok
