use Rattle.std.proofs.Common.{sym, ap, ◌∙◌, List, [], Option}
use Rattle.std.specs.Option.{unwrap_or}
use Rattle.book_preflights.specs.declared.entry.CacheEntry.{CacheEntry}
use Rattle.book_preflights.proofs.KeyLemmas.{entries-found}
use Rattle.book_preflights.proofs.cache.entries_of.Goals as goal

pub returns-in-Some-clause-entries : goal.returns-in-Some-clause-entries
returns-in-Some-clause-entries c =
    let is = entries-found (λ key. key.items) c.args.key.now c.args.partitions.now.entries c.requires in
    c.as_slice.ensures.entries
    ∙ (ap (λ (found : Option (List CacheEntry)). unwrap_or found []) c.in-Some.ensures.value ∙ sym is)

pub returns-in-None-clause-entries : goal.returns-in-None-clause-entries
returns-in-None-clause-entries c =
    let is = entries-found (λ key. key.items) c.args.key.now c.args.partitions.now.entries c.requires in
    ap (λ (found : Option (List CacheEntry)). unwrap_or found []) c.in-None.ensures.value ∙ sym is
