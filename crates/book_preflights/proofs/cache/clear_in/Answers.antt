use Rattle.std.proofs.Common.{sym, ap, ◌∙◌}
use Rattle.book_preflights.specs.Private.Partitions.{listed}
use Rattle.book_preflights.proofs.KeyLemmas.{entries-cleared, entries-left}
use Rattle.book_preflights.proofs.cache.clear_in.Goals as goal

pub returns-in-Some-clause-cleared : goal.returns-in-Some-clause-cleared
returns-in-Some-clause-cleared c =
    let is = entries-cleared (λ key. key.items) c.args.key.now c.args.origin.now c.args.url.now
    c.args.partitions.now.entries c.in-Some.partition.now c.requires (sym c.in-Some.ensures.value) in
    ap (λ es. listed (λ key. key.items) es) (c.get_mut.follows.holds c.clear.new.self).0 ∙ rw c.clear.ensures is

pub returns-in_default-clause-cleared : goal.returns-in_default-clause-cleared
returns-in_default-clause-cleared c =
    rw c.get_mut.follows.holds-at-none
    (sym (entries-left (λ key. key.items) c.args.key.now c.args.origin.now c.args.url.now
    c.args.partitions.now.entries (sym c.in_default.ensures.value)))
