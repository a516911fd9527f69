use Rattle.std.proofs.Common.{subst, sym}
use Rattle.book_hosts.specs.Hosts.{AreHosts}
use Rattle.book_hosts.proofs.NotedLemmas.{hosts-without}
use Rattle.book_hosts.proofs.hosts.HstsList.forget.Goals as goal

pub invariant_of-self : goal.invariant_of-self
invariant_of-self c =
    subst AreHosts (sym c.take_out.ensures) (hosts-without c.args.host.now c.self.inside.index c.self.invariant)

pub returns-clause-hosts : goal.returns-clause-hosts
returns-clause-hosts c = invariant_of-self c
