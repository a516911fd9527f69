use Rattle.std.proofs.Common.{ap, sym, ◌∙◌}
use Rattle.book_hosts.specs.Hosts.{without}
use Rattle.book_hosts.specs.Private.Index.{listed}
use Rattle.book_hosts.proofs.IndexLemmas.{agree-removed, taken-out}
use Rattle.book_hosts.proofs.NameLemmas.{bytes_of}
use Rattle.book_hosts.proofs.index.Index.take_out.Goals as goal

pub invariant_of-self : goal.invariant_of-self
invariant_of-self c = record {
  sorted = c.remove_entry.ensures.ordered;
  ends_sorted = c.remove.ensures.ordered;
  same = agree-removed bytes_of c.args.host.now c.in-Some.name c.in-Some.term c.self.inside.terms.entries
      c.remove_entry.new.self.entries c.self.inside.ends.keys c.remove.new.self.keys c.in-Some.ensures.same_key
      (sym c.in-Some.ensures.value) c.self.invariant.same c.remove_entry.ensures.updates.0 c.remove.ensures.updates.0;
}

pub returns-in-Some : goal.returns-in-Some
returns-in-Some c =
    ap (listed bytes_of) c.remove_entry.ensures.entries
    ∙ taken-out bytes_of c.args.host.now c.self.inside.terms.entries c.self.invariant.sorted
    ∙ ap (without c.args.host.now) c.self.view_is

pub returns-in_default : goal.returns-in_default
returns-in_default c =
    ap (listed bytes_of) c.remove_entry.ensures.entries
    ∙ taken-out bytes_of c.args.host.now c.self.inside.terms.entries c.self.invariant.sorted
    ∙ ap (without c.args.host.now) c.self.view_is
