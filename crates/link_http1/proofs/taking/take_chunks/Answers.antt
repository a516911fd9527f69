use Rattle.std.proofs.Common.{arith, sym, ◌∙◌}
use Rattle.link_http1.proofs.TakingLemmas.{data-exceeds, data-goes, goes-front}
use Rattle.link_http1.proofs.taking.take_chunks.Goals as goal

pub returns-then-not-take_data : goal.returns-then-not-take_data
returns-then-not-take_data c =
    data-exceeds c.args.limit c.least.result c.data_left-left.result _ _ c.loop-rest.rest.now c.split_at.result.0.now
    _ c.loop-rest.place c.take_data.result c.loop-rest.invariant
    c.data_left-left.ensures c.if-left-gt0.true c.least.ensures c.split_at.ensures.front c.take_data.ensures.fits
    c.if-not-take_data.true

pub loop-rest-preserved-then-left-gt0 : goal.loop-rest-preserved-then-left-gt0
loop-rest-preserved-then-left-gt0 c =
    data-goes c.args.limit c.least.result c.data_left-left.result _ _ c.loop-rest.rest.now _ c.split_at.result.0.now
    c.split_at.result.1.now _ _ c.loop-rest.place c.take_data.result c.loop-rest.invariant
    c.data_left-left.ensures c.if-left-gt0.true c.least.ensures c.split_at.ensures.front c.split_at.ensures.back
    c.take_data.ensures.fits c.if-not-take_data.false c.take_data.ensures.items
    (omega (arith, c.loop-rest.invariant.reserved, c.take_data.ensures.room))

pub loop-rest-preserved : goal.loop-rest-preserved
loop-rest-preserved c =
    goes-front c.args.limit _ _ c.loop-rest.rest.now _ c.loop-rest.place c.in-To.next c.loop-rest.invariant
    c.in-len1-up.len_at_least
    (omega (arith, c.data_left-left.ensures, c.if-left-gt0.false)) (sym c.turn.ensures ∙ c.in-To.is)
