use Rattle.std.proofs.Common.{length, arith}
use Rattle.book_preflights.proofs.PackLemmas.{text-at, text-within}
use Rattle.book_preflights.proofs.packed.text_at.Goals as goal

pub slice_bounds-result-count : goal.slice_bounds-result-count
slice_bounds-result-count c =
    omega (arith, text-within 0 (length c.args.bytes.now) c.args.ends.now c.args.index c.requires.ends c.requires.index)

pub slice_bounds-result-start : goal.slice_bounds-result-start
slice_bounds-result-start c =
    omega (arith, text-within 0 (length c.args.bytes.now) c.args.ends.now c.args.index c.requires.ends c.requires.index)

pub slice_bounds-result-end : goal.slice_bounds-result-end
slice_bounds-result-end c =
    omega (arith, text-within 0 (length c.args.bytes.now) c.args.ends.now c.args.index c.requires.ends c.requires.index)

pub returns : goal.returns
returns c = rw (← c.start_of-start.ensures) at (text-at c.args.bytes.now 0 c.args.ends.now c.args.index c.requires.index)
