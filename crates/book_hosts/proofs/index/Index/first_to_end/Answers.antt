use Rattle.std.proofs.Common.{◌≡◌, true, false, Some, subst, sym, ◌∙◌}
use Rattle.book_hosts.specs.Private.Terms.{IsFirstToEnd}
use Rattle.book_hosts.proofs.IndexLemmas.{first-is, none-first}
use Rattle.book_hosts.proofs.NameLemmas.{bytes_of}
use Rattle.book_hosts.proofs.index.Index.first_to_end.Goals as goal

pub returns-in-Some : goal.returns-in-Some
returns-in-Some c =
    let first = first-is bytes_of c.in-Some.field-0.now c.self.inside.terms.entries c.self.inside.ends.keys
    c.self.invariant.sorted c.self.invariant.same c.in-Some.ensures.member c.in-Some.ensures.least in
    subst (λ name. IsFirstToEnd (Some name) c.args.self.now) (sym c.as_slice.ensures.value)
    (subst (λ hosts. IsFirstToEnd (Some (bytes_of c.in-Some.field-0.now.1)) hosts) c.self.view_is first)

pub returns-in-None : goal.returns-in-None
returns-in-None c =
    sym c.self.view_is
    ∙ none-first bytes_of c.self.inside.terms.entries c.self.inside.ends.keys c.self.invariant.same (λ some.
    let never : false ≡ true = c.in-None.ensures.variant.1 some in
    absurd (cc))
