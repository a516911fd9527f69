use Rattle.std.proofs.Common.{nat_lt, ap, ◌∙◌}
use Rattle.book_hosts.specs.Private.Terms.{passes}
use Rattle.book_hosts.specs.declared.index.Term.{Term}
use Rattle.book_hosts.proofs.SortedLemmas.{passes-any}
use Rattle.book_hosts.proofs.hosts.holds_alive.Goals as goal

pub returns : goal.returns
returns c =
    c.is_alive.ensures ∙ ap (passes (λ (term : Term). nat_lt c.args.now term.until)) c.term_of.ensures.term
    ∙ passes-any (λ (term : Term). nat_lt c.args.now term.until) c.args.host.now c.args.index.now
    c.term_of.ensures.sorted
