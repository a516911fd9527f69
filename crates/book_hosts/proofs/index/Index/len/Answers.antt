use Rattle.std.proofs.Common.{subst}
use Rattle.book_hosts.specs.Hosts.{AreSorted}
use Rattle.book_hosts.proofs.IndexLemmas.{listed-sorted}
use Rattle.book_hosts.proofs.NameLemmas.{bytes_of}
use Rattle.book_hosts.proofs.index.Index.len.Goals as goal

pub returns-clause-sorted : goal.returns-clause-sorted
returns-clause-sorted c =
    subst AreSorted c.self.view_is (listed-sorted bytes_of c.self.inside.terms.entries c.self.invariant.sorted)
