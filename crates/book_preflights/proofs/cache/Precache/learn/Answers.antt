use Rattle.book_preflights.proofs.CacheLaws.{learned-cache}
use Rattle.book_preflights.proofs.cache.Precache.learn.Goals as goal

pub invariant_of-self : goal.invariant_of-self
invariant_of-self c = (
  c.put.ensures.ordered,
  learned-cache (λ key. key.items) c.put.result c.args.lesson.now c.args.now c.as_slice.result.now
      c.as_slice-2.result.now c.entries_of-entries.result.now c.in_ok-partition.partition
      c.self.inside.partitions.entries c.put.new.partitions.entries c.self.invariant.1 c.as_slice.ensures
      c.as_slice-2.ensures c.entries_of-entries.ensures.entries c.in_ok-partition.ensures c.put.ensures.ok
      c.put.ensures.err,
)

pub returns-clause-cache : goal.returns-clause-cache
returns-clause-cache c = (invariant_of-self c).1
