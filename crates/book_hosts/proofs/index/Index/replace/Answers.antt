use Rattle.std.proofs.Common.{◌≡◌, ℕ, Vec, Global, Some, None, cond, ap, refl, subst, sym, ◌∙◌}
use Rattle.std.specs.Ordering.{is_eq}
use Rattle.book_hosts.specs.Hosts.{known_host, with_host}
use Rattle.value_text.specs.Orders.{text_cmp}
use Rattle.std.specs.BTreeMap.{insert_entry}
use Rattle.book_hosts.specs.Private.Index.{listed, name_cmp, term_of}
use Rattle.book_hosts.specs.Private.Terms.{term_in}
use Rattle.book_hosts.proofs.IndexLemmas.{Agree, agree-moved, agree-stayed, put-in, term-listed}
use Rattle.book_hosts.proofs.NameLemmas.{bytes_of}
use Rattle.book_hosts.proofs.TwiceLemmas.{from-new, from-old}
use Rattle.book_hosts.proofs.index.Index.replace.Goals as goal
use Rattle.book_hosts.proofs.index.Index.replace.Goals.{else-branch, then-branch}

pub unreachable-requires : goal.unreachable-requires
unreachable-requires c =
    let entries : c.if-branch.self-inside.terms.entries ≡ c.self.inside.terms.entries =
    elim c.if-branch.branch [
      | then-branch w ↦ ap (λ s. s.terms.entries) w.self-inside-is
      | else-branch w ↦
          ap (λ s. s.terms.entries) w.self-inside-is
    ] in
    let there : term_of bytes_of c.args.host.items c.self.inside.terms.entries ≡ Some c.args.old =
    term-listed bytes_of c.args.host.items c.self.inside.terms.entries ∙ ap (term_in c.args.host.items) c.self.view_is
    ∙ c.requires in
    let absent : term_of bytes_of c.args.host.items c.self.inside.terms.entries ≡ None =
    ap (λ es. term_of bytes_of (bytes_of c.args.host) es) (sym entries)
    ∙ c.in-Err.ensures.absent in
    let never : Some c.args.old ≡ None = sym there ∙ absent in
    absurd (cc)

pub invariant_of-self-2 : goal.invariant_of-self-2
invariant_of-self-2 c =
    let entries : c.if-branch.self-inside.terms.entries ≡ c.self.inside.terms.entries =
    elim c.if-branch.branch [
      | then-branch w ↦ ap (λ s. s.terms.entries) w.self-inside-is
      | else-branch w ↦
          ap (λ s. s.terms.entries) w.self-inside-is
    ] in
    let there : term_of bytes_of c.args.host.items c.self.inside.terms.entries ≡ Some c.args.old =
    term-listed bytes_of c.args.host.items c.self.inside.terms.entries ∙ ap (term_in c.args.host.items) c.self.view_is
    ∙ c.requires in
    let ended : Vec ℕ Global = c.args.host in
    let put : Vec ℕ Global = c.in_ok-from_slice.field-0 in
    let terms : (q : Vec ℕ Global) → term_of bytes_of (bytes_of q) c.insert-2.new.self.entries
    ≡ cond (is_eq (text_cmp (bytes_of ended) (bytes_of q))) (Some c.args.term)
    (term_of bytes_of (bytes_of q) c.self.inside.terms.entries) =
    λ q. c.in-Ok.ensures.updates.0 q
    ∙ ap (λ es. cond (is_eq (text_cmp (bytes_of ended) (bytes_of q))) (Some c.args.term)
    (term_of bytes_of (bytes_of q) es)) entries in
    record {
      sorted = c.in-Ok.ensures.ordered;
      ends_sorted = elim c.if-branch.branch [
        | then-branch w ↦ rw w.self-inside-is w.remove.ensures.ordered
        | else-branch w ↦ rw w.self-inside-is c.in_ok-insert.ensures.ordered
      ];
      same = elim c.if-branch.branch [
        | then-branch w ↦ subst (λ s. Agree bytes_of c.insert-2.new.self.entries s.ends.keys) (sym w.self-inside-is)
            (agree-moved bytes_of c.args.host.items put ended c.args.old c.args.term c.self.inside.terms.entries
            c.insert-2.new.self.entries c.self.inside.ends.keys c.insert.new.self.keys w.remove.new.self.keys
            (c.in_ok-from_slice.ensures.items ∙ c.as_slice.ensures.value) refl there c.self.invariant.same
            (from-new _ _ c.in_ok-insert.ensures.added w.if-branch.true) terms c.in_ok-insert.ensures.updates.0
            w.remove.ensures.updates.0)
        | else-branch w ↦ subst (λ s. Agree bytes_of c.insert-2.new.self.entries s.ends.keys) (sym w.self-inside-is)
            (agree-stayed bytes_of c.args.host.items put ended c.args.old c.args.term c.self.inside.terms.entries
            c.insert-2.new.self.entries c.self.inside.ends.keys c.insert.new.self.keys
            (c.in_ok-from_slice.ensures.items ∙ c.as_slice.ensures.value) refl there c.self.invariant.same
            (from-old _ _ c.in_ok-insert.ensures.added w.if-branch.false) terms c.in_ok-insert.ensures.updates.0)
      ];
    }

pub returns-clause-ok : goal.returns-clause-ok
returns-clause-ok c =
    let entries : c.if-branch.self-inside.terms.entries ≡ c.self.inside.terms.entries =
    elim c.if-branch.branch [
      | then-branch w ↦ ap (λ s. s.terms.entries) w.self-inside-is
      | else-branch w ↦
          ap (λ s. s.terms.entries) w.self-inside-is
    ] in
    ap (listed bytes_of) (c.in-Ok.ensures.entries
    ∙ ap (λ es. insert_entry (name_cmp bytes_of) es c.args.host c.args.term) entries)
    ∙ put-in bytes_of c.args.host c.args.term c.self.inside.terms.entries c.self.invariant.sorted
    ∙ ap (with_host (known_host c.args.host.items c.args.term.subdomains c.args.term.until)) c.self.view_is
