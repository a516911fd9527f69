use Rattle.std.proofs.Common.{sym, subst, ◌∙◌}
use Rattle.book_preflights.specs.Keys.{IsCache}
use Rattle.book_preflights.specs.Private.Partitions.{listed}
use Rattle.book_preflights.proofs.CacheLaws.{changes-keep-caches}
use Rattle.book_preflights.proofs.cache.Precache.clear.Goals as goal

pub invariant_of-self : goal.invariant_of-self
invariant_of-self c = (
  c.drop_empty.ensures.ordered,
  subst IsCache (sym (c.drop_empty.ensures.listed ∙ c.clear_in.ensures.cleared))
      (changes-keep-caches.cleared_is c.args.key.now c.args.origin.now c.args.url.now
      (listed (λ key. key.items) c.self.inside.partitions.entries) c.self.invariant.1),
)

pub returns-clause-cache : goal.returns-clause-cache
returns-clause-cache c = (invariant_of-self c).1
