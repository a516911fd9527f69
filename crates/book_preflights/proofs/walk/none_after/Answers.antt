use Rattle.std.proofs.Common.{ap, ◌∙◌, nat_cmp}
use Rattle.std.specs.Cmp.Lexicographic.{slice_cmp}
use Rattle.std.specs.List.{list_all}
use Rattle.std.specs.Ordering.{is_le}
use Rattle.book_preflights.proofs.WalkLemmas.{filled, is_not_after, last-decides, popped}
use Rattle.book_preflights.proofs.walk.none_after.Goals as goal

pub returns-then-not-is_empty-clause-none : goal.returns-then-not-is_empty-clause-none
returns-then-not-is_empty-clause-none c =
    c.is_le.ensures ∙ ap is_le c.cmp.ensures
    ∙ ap (λ text. is_le (slice_cmp nat_cmp text c.args.key.now)) c.as_slice-then-not-is_empty.ensures.value
    ∙ last-decides (λ key. key.items) c.args.key.now c.in-Some.last.now c.in-Some.partition.now
    c.loop-last.partitions.entries _ c.in-Some.ensures.last
    (filled c.in-Some.partition.now c.as_slice.result.now c.as_slice.ensures.entries c.if-not-is_empty.ensures)
    c.in-Some.ensures.all_up_to
    ∙ ap (list_all (is_not_after c.args.key.now)) c.loop-last.invariant.0

pub loop-last-preserved-else-not-is_empty : goal.loop-last-preserved-else-not-is_empty
loop-last-preserved-else-not-is_empty c = (
  popped (λ key. key.items) c.loop-last.partitions.entries c.pop_last.new.self.entries c.pop_last.result
      c.in-Some.last.now c.in-Some.partition.now c.as_slice.result.now c.in-Some.ensures.last
      c.as_slice.ensures.entries c.if-not-is_empty.ensures c.pop_last.ensures.removal c.pop_last.ensures.unchanged
      ∙ c.loop-last.invariant.0,
  c.pop_last.ensures.ordered,
)
