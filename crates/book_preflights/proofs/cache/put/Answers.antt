use Rattle.std.proofs.Common.{sym, ap, ◌∙◌, ◌≡◌, List, []}
use Rattle.book_preflights.specs.Keys.{with_entries}
use Rattle.book_preflights.specs.Private.Partitions.{listed}
use Rattle.book_preflights.specs.declared.entry.CacheEntry.{CacheEntry}
use Rattle.book_preflights.proofs.ListLemmas.{empty}
use Rattle.book_preflights.proofs.KeyLemmas.{entries-inserted, entries-removed}
use Rattle.book_preflights.proofs.cache.put.Goals as goal

pub returns-then-is_empty-clause-ok : goal.returns-then-is_empty-clause-ok
returns-then-is_empty-clause-ok c =
    let none : c.args.partition ≡ [] =
    empty c.args.partition c.as_slice.result.now c.as_slice.ensures.entries c.if-is_empty.ensures in
    ap (λ es. listed (λ key. key.items) es) c.remove.ensures.entries
    ∙ (entries-removed (λ key. key.items) c.args.key.now c.args.partitions.now.entries c.requires
    ∙ ap (λ (entries : List CacheEntry). with_entries c.args.key.now entries
    (listed (λ key. key.items) c.args.partitions.now.entries)) (sym none))

pub returns-clause-ok : goal.returns-clause-ok
returns-clause-ok c =
    ap (λ es. listed (λ key. key.items) es) c.in_ok-insert.ensures.entries
    ∙ (entries-inserted (λ key. key.items) c.in_ok-key.key c.args.partition c.args.partitions.now.entries c.requires
    ∙ ap (λ key. with_entries key c.args.partition (listed (λ key. key.items) c.args.partitions.now.entries))
    c.in_ok-key.ensures.items)
