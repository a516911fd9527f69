use Rattle.std.proofs.Common.{◌≡◌, ◌++◌, ◌∷◌, [], subst, sym, ap, ◌∙◌}
use Rattle.book_preflights.specs.Keys.{IsCache, entries_of, extended, with_entries}
use Rattle.book_preflights.specs.Private.Partitions.{listed}
use Rattle.book_preflights.proofs.WalkLemmas.{extended-cache, extended-last}
use Rattle.book_preflights.proofs.cache.Precache.extend.Goals as goal
use Rattle.book_preflights.proofs.cache.Precache.extend.Goals.{In_ok-add}

became : (c : In_ok-add) → listed (λ key. key.items) c.add.new.partitions.entries
    ≡ extended c.args.new (listed (λ key. key.items) c.self.inside.partitions.entries)
became c =
    c.in_ok-add.ensures.ok
    ∙ ap (λ cache. with_entries c.args.new.key (entries_of c.args.new.key cache ++ c.args.new.entry ∷ []) cache)
    c.may_stand_last.ensures.listed
    ∙ extended-last c.args.new (listed (λ key. key.items) c.self.inside.partitions.entries)
    c.self.invariant.1.sorted c.if-not-may_stand_last.ensures.may

pub returns-clause-ok : goal.returns-clause-ok
returns-clause-ok c = became c ∙ ap (extended c.args.new) c.self.view_is

pub invariant_of-self-2 : goal.invariant_of-self-2
invariant_of-self-2 c = (
  c.in_ok-add.ensures.ordered,
  subst IsCache (sym (became c)) (extended-cache c.args.new
      (listed (λ key. key.items) c.self.inside.partitions.entries) c.self.invariant.1),
)

pub returns-clause-cache : goal.returns-clause-cache
returns-clause-cache c = (invariant_of-self-2 c).1
