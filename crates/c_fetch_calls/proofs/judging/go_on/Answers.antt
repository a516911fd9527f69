use Rattle.std.proofs.Common.{rules}
use Rattle.fetch_session.specs.Sessions.{standing_of}
use Rattle.c_fetch_calls.specs.Judging.{judged}
use Rattle.c_fetch_calls.proofs.JudgingLemmas.{cut-at, many-more, many-none}
use Rattle.c_fetch_calls.proofs.judging.go_on.Goals as goal

pub loop-times-init : goal.loop-times-init
loop-times-init c = many-none (judged (standing_of c.args.session.now) c.args.book.now c.args.told.now)

pub returns-in_err-do_one-clause-cut : goal.returns-in_err-do_one-clause-cut
returns-in_err-do_one-clause-cut c =
    cut-at c.from_residual.result (judged (standing_of c.args.session.now) c.args.book.now c.args.told.now)
    (judged (standing_of c.loop-times.session) c.loop-times.book c.loop-times.told) c.loop-times._times
    c.do_one.new.book (search rules) c.loop-times.invariant c.in_err-do_one.ensures.cut

pub loop-times-preserved : goal.loop-times-preserved
loop-times-preserved c =
    many-more (judged (standing_of c.args.session.now) c.args.book.now c.args.told.now)
    (judged (standing_of c.loop-times.session) c.loop-times.book c.loop-times.told)
    (judged (standing_of c.do_one.new.session) c.do_one.new.book c.do_one.new.told) c.loop-times._times
    c.loop-times.invariant (search rules)
