use Rattle.std.proofs.Common.{sym}
use Rattle.value_lemmas.proofs.Options.{OnErr-from}
use Rattle.book_preflights.proofs.KeyLemmas.{entries-begun, entries-pushed, found-few}
use Rattle.book_preflights.proofs.WalkLemmas.{unchanged}
use Rattle.book_preflights.proofs.walk.add.Goals as goal

pub push-requires : goal.push-requires
push-requires c =
    found-few (λ key. key.items) c.args.new.key c.as_slice.result.now c.args.partitions.now.entries
    c.in-Some.partition.now c.as_slice.ensures c.requires.ordered (sym c.in-Some.ensures.value) c.requires.room

pub returns-in-Some-clause-ok : goal.returns-in-Some-clause-ok
returns-in-Some-clause-ok c =
    entries-pushed (λ key. key.items) c.args.new.key c.as_slice.result.now c.args.new.entry
    c.args.partitions.now.entries (c.get_mut.follows.lender c.push.new.self).entries c.in-Some.partition.now
    c.push.new.self c.as_slice.ensures c.requires.ordered (sym c.in-Some.ensures.value)
    (c.get_mut.follows.holds c.push.new.self).0 c.in_ok-push.ensures.ok

pub returns-in_err-push-clause-err : goal.returns-in_err-push-clause-err
returns-in_err-push-clause-err c =
    OnErr-from c.from_residual.result
    (unchanged _ c.args.partitions.now.entries (c.get_mut.follows.lender c.push.new.self).entries
    c.in-Some.partition.now c.push.new.self (c.get_mut.follows.holds c.push.new.self).0 c.in_err-push.ensures.err
    (sym c.in-Some.ensures.value))

pub returns-clause-ok : goal.returns-clause-ok
returns-clause-ok c =
    entries-begun (λ key. key.items) c.args.new.key c.as_slice.result.now c.args.new.entry c.in_ok-key.key
    c.args.partitions.now.entries c.insert.new.self.entries c.in_ok-partition.partition c.as_slice.ensures
    c.in_ok-key.ensures c.requires.ordered (sym c.in_default.ensures.value)
    (rw c.get_mut.follows.holds-at-none at c.in_ok-insert.ensures.entries)
    c.in_ok-partition.ensures
