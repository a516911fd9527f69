use Rattle.std.proofs.Common.{◌≡◌, None, ap, refl, subst, sym, ◌∙◌}
use Rattle.book_hosts.specs.Hosts.{known_host, with_host}
use Rattle.book_hosts.specs.Private.Index.{listed, term_of}
use Rattle.book_hosts.specs.Private.Terms.{term_in}
use Rattle.book_hosts.proofs.IndexLemmas.{Agree, agree-added, agree-undone, put-in, term-listed}
use Rattle.book_hosts.proofs.NameLemmas.{bytes_of}
use Rattle.book_hosts.proofs.index.Index.add.Goals as goal

pub invariant_of-self-in-Ok : goal.invariant_of-self-in-Ok
invariant_of-self-in-Ok c =
    let absent : term_of bytes_of c.args.host.items c.self.inside.terms.entries ≡ None =
    term-listed bytes_of c.args.host.items c.self.inside.terms.entries ∙ ap (term_in c.args.host.items) c.self.view_is
    ∙ c.requires in
    record {
      sorted = c.in-Ok.ensures.ordered;
      ends_sorted = c.in_ok-insert.ensures.ordered;
      same = agree-added bytes_of c.args.host.items c.args.host c.in_ok-from_slice.field-0 c.args.term
          c.self.inside.terms.entries c.insert-2.new.self.entries c.self.inside.ends.keys c.insert.new.self.keys
          refl (c.in_ok-from_slice.ensures.items ∙ c.as_slice.ensures.value) absent c.self.invariant.same
          c.in-Ok.ensures.updates.0 c.in_ok-insert.ensures.updates.0;
    }

pub invariant_of-self-in-Err : goal.invariant_of-self-in-Err
invariant_of-self-in-Err c =
    let absent : term_of bytes_of c.args.host.items c.self.inside.terms.entries ≡ None =
    term-listed bytes_of c.args.host.items c.self.inside.terms.entries ∙ ap (term_in c.args.host.items) c.self.view_is
    ∙ c.requires in
    let named : bytes_of c.in-Err.refused.value.0 ≡ c.args.host.items =
    ap (λ p. bytes_of p.0) c.in-Err.ensures.value_returned in
    record {
      sorted = c.in-Err.ensures.ordered;
      ends_sorted = c.remove.ensures.ordered;
      same = subst (λ es. Agree bytes_of es c.remove.new.self.keys) (sym c.in-Err.ensures.err)
          (agree-undone bytes_of c.args.host.items c.in-Err.refused.value.0 c.in_ok-from_slice.field-0 c.args.term
          c.self.inside.terms.entries c.self.inside.ends.keys c.insert.new.self.keys c.remove.new.self.keys named
          (c.in_ok-from_slice.ensures.items ∙ c.as_slice.ensures.value) absent c.self.invariant.same
          c.in_ok-insert.ensures.updates.0 c.remove.ensures.updates.0);
    }

pub returns-in-Ok-clause-ok : goal.returns-in-Ok-clause-ok
returns-in-Ok-clause-ok c =
    ap (listed bytes_of) c.in-Ok.ensures.entries
    ∙ put-in bytes_of c.args.host c.args.term c.self.inside.terms.entries c.self.invariant.sorted
    ∙ ap (with_host (known_host c.args.host.items c.args.term.subdomains c.args.term.until)) c.self.view_is
