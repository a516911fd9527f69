use Rattle.std.proofs.Common.{arith, ◌+◌, ◌≤◌, length, take}
use Rattle.std.proofs.lemmas.List.{length-take}
use Rattle.link_traits.proofs.SourceLemmas.{gave-at_most, gave-just}
use Rattle.link_traits.proofs.source.read_whole.Goals as goal

pub returns-in-Ok-read-clause-too_long : goal.returns-in-Ok-read-clause-too_long
returns-in-Ok-read-clause-too_long g c = λ _.
    gave-just _ _ _ c.loop-text.text (take c.in-Ok-read.count c.read.new.buf) c.args.most c.loop-text.invariant.gave
    c.loop-text.invariant.within c.in-Ok-read.ensures.gave
    (omega (arith, c.in-Ok-read.ensures.count.1, c.if-count-room.true, c.len.ensures))

pub returns-in-Err-append-clause-refused : goal.returns-in-Err-append-clause-refused
returns-in-Err-append-clause-refused g c = λ _.
    let within : length c.loop-text.text + length (take c.in-Ok-read.count c.read.new.buf) ≤ c.args.most =
    omega (
      arith,
      c.in-Ok-read.ensures.count.0,
      c.in-Ok-read.ensures.count.1,
      c.if-count-room.false,
      length-take c.min.result c.as_mut_slice.result.now,
      c.read.auto.buf,
      c.min.ensures,
      c.len.ensures,
      c.loop-text.invariant.within,
    ) in
    gave-at_most _ _ _ c.loop-text.text (take c.in-Ok-read.count c.read.new.buf) c.args.most
    c.loop-text.invariant.gave c.in-Ok-read.ensures.gave within
