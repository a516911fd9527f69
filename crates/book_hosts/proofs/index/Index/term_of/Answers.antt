use Rattle.std.proofs.Common.{ap, subst, ◌∙◌}
use Rattle.book_hosts.specs.Hosts.{AreSorted}
use Rattle.book_hosts.specs.Private.Terms.{term_in}
use Rattle.book_hosts.proofs.IndexLemmas.{listed-sorted, term-listed}
use Rattle.book_hosts.proofs.NameLemmas.{bytes_of}
use Rattle.book_hosts.proofs.index.Index.term_of.Goals as goal

pub returns-clause-term : goal.returns-clause-term
returns-clause-term c = c.copied.ensures ∙ c.get.ensures.value
    ∙ term-listed bytes_of c.args.host.now c.self.inside.terms.entries ∙ ap (term_in c.args.host.now) c.self.view_is

pub returns-clause-sorted : goal.returns-clause-sorted
returns-clause-sorted c =
    subst AreSorted c.self.view_is (listed-sorted bytes_of c.self.inside.terms.entries c.self.invariant.sorted)
