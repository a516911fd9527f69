use Rattle.std.proofs.Common.{subst, sym, ap, ◌∙◌}
use Rattle.book_hosts.specs.Hosts.{AreHosts, with_host}
use Rattle.book_hosts.proofs.WalkLemmas.{extended-last, extended-hosts}
use Rattle.book_hosts.proofs.hosts.HstsList.extend.Goals as goal

pub returns-clause-ok : goal.returns-clause-ok
returns-clause-ok c =
    c.in_ok-put.ensures.ok ∙ ap (with_host c.args.known) c.self.view_is
    ∙ extended-last c.args.known c.args.self.now c.if-not-may_stand_last.ensures

pub invariant_of-self-2 : goal.invariant_of-self-2
invariant_of-self-2 c =
    subst AreHosts (sym (returns-clause-ok c))
    (extended-hosts c.args.known c.args.self.now (subst AreHosts c.self.view_is c.self.invariant))

pub returns-clause-hosts : goal.returns-clause-hosts
returns-clause-hosts c = invariant_of-self-2 c
