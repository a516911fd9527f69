use Rattle.std.proofs.Common.{ap, ◌∙◌}
use Rattle.book_hosts.specs.Hosts.{noted}
use Rattle.book_hosts.proofs.NotedLemmas.{put-kept, put-left}
use Rattle.book_hosts.proofs.hosts.HstsList.note.Goals as goal

pub invariant_of-self-in-Some : goal.invariant_of-self-in-Some
invariant_of-self-in-Some c =
    (put-left c.args.host c.as_slice-2.result.now c.in-Some.name
    c.as_slice-in-Some.result.now c.in_ok-leaving.leaving c.args.sts c.args.now c.self.inside.index c.put.new.self
    c.take_out.new.self c.if-sts-eq0.false c.self.invariant c.as_slice-2.ensures
    c.as_slice-in-Some.ensures c.in-Some.is c.in_ok-leaving.ensures c.in_ok-put.ensures.ok c.take_out.ensures).1

pub invariant_of-self-in_default : goal.invariant_of-self-in_default
invariant_of-self-in_default c =
    (put-kept c.args.host c.as_slice-2.result.now c.in_ok-leaving.leaving c.args.sts c.args.now
    c.self.inside.index c.put.new.self c.if-sts-eq0.false c.self.invariant c.as_slice-2.ensures
    c.in_default.is c.in_ok-leaving.ensures c.in_ok-put.ensures.ok).1

pub returns-in-Some-clause-ok : goal.returns-in-Some-clause-ok
returns-in-Some-clause-ok c =
    (put-left c.args.host c.as_slice-2.result.now c.in-Some.name
    c.as_slice-in-Some.result.now c.in_ok-leaving.leaving c.args.sts c.args.now c.self.inside.index c.put.new.self
    c.take_out.new.self c.if-sts-eq0.false c.self.invariant c.as_slice-2.ensures
    c.as_slice-in-Some.ensures c.in-Some.is c.in_ok-leaving.ensures c.in_ok-put.ensures.ok c.take_out.ensures).0
    ∙ ap (noted c.args.host c.args.sts c.args.now) c.self.view_is

pub returns-in-Some-clause-hosts : goal.returns-in-Some-clause-hosts
returns-in-Some-clause-hosts c = invariant_of-self-in-Some c

pub returns-in_default-clause-ok : goal.returns-in_default-clause-ok
returns-in_default-clause-ok c =
    (put-kept c.args.host c.as_slice-2.result.now c.in_ok-leaving.leaving c.args.sts c.args.now
    c.self.inside.index c.put.new.self c.if-sts-eq0.false c.self.invariant c.as_slice-2.ensures
    c.in_default.is c.in_ok-leaving.ensures c.in_ok-put.ensures.ok).0
    ∙ ap (noted c.args.host c.args.sts c.args.now) c.self.view_is

pub returns-in_default-clause-hosts : goal.returns-in_default-clause-hosts
returns-in_default-clause-hosts c = invariant_of-self-in_default c
