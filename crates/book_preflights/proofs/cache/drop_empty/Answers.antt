use Rattle.std.proofs.Common.{ap, ◌∙◌}
use Rattle.book_preflights.specs.Keys.{entries_of}
use Rattle.book_preflights.specs.Private.Partitions.{listed}
use Rattle.book_preflights.proofs.ListLemmas.{empty}
use Rattle.book_preflights.proofs.KeyLemmas.{entries-emptied}
use Rattle.book_preflights.proofs.cache.drop_empty.Goals as goal

pub returns-then-is_empty-clause-listed : goal.returns-then-is_empty-clause-listed
returns-then-is_empty-clause-listed c =
    let none = empty (entries_of c.args.key.now (listed (λ key. key.items) c.args.partitions.now.entries))
    c.entries_of.result.now c.entries_of.ensures.entries c.if-is_empty.ensures in
    ap (λ es. listed (λ key. key.items) es) c.remove.ensures.entries
    ∙ entries-emptied (λ key. key.items) c.args.key.now c.args.partitions.now.entries c.requires none
