use Rattle.std.proofs.Common.{[], subst}
use Rattle.link_http1.specs.BodyFeeding.{IsFed}
use Rattle.fetch_session.proofs.EndingLemmas.{fails_decided, fails_open}
use Rattle.fetch_session.proofs.ending.body_at_fault.Goals as goal

pub returns-in-More : goal.returns-in-More
returns-in-More c = fails_open c.args.reader c.in-More.reader c.finish.result c.count_of.result
    (subst (IsFed c.args.reader []) c.in-More.is c.feed.ensures) c.finish.ensures c.count_of.ensures

pub returns-in_ok-fitted-in-Over : goal.returns-in_ok-fitted-in-Over
returns-in_ok-fitted-in-Over c = rw (c.in_ok-fitted-in-Over.ensures) (fails_decided c.args.reader c.in-Over.end
    (subst (IsFed c.args.reader []) c.in-Over.is c.feed.ensures))
