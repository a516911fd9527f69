use Rattle.std.proofs.Common.{◌∙◌, ◌<◌, arith}
use Rattle.link_traits.proofs.SinkLemmas.{wrote-more, zeros-failed, zeros-still}
use Rattle.link_traits.proofs.sink.write_whole.Goals as goal

pub returns-in-Err-clause-zeros : goal.returns-in-Err-clause-zeros
returns-in-Err-clause-zeros g c =
    zeros-failed (g.K.Sink.takes c.loop-rest.sink).zeros (g.K.Sink.takes c.write.new.self).zeros (record {})
    c.loop-rest.rest.now c.in-Err.ensures.zero ∙ c.loop-rest.invariant.zeros

pub loop-rest-preserved : goal.loop-rest-preserved
loop-rest-preserved g c =
    let some : 0 < c.in-Ok.count = omega arith in
    record {
      wrote = rw c.split_at.ensures.back
          (wrote-more (g.K.Sink.takes c.args.sink.now).taken (g.K.Sink.takes c.loop-rest.sink).taken
          (g.K.Sink.takes c.write.new.self).taken
          c.args.text.now c.loop-rest.rest.now c.in-Ok.count c.loop-rest.invariant.wrote c.in-Ok.ensures.count
          c.in-Ok.ensures.took);
      faults = c.in-Ok.ensures.cause.quiet ∙ c.loop-rest.invariant.faults;
      zeros = zeros-still (g.K.Sink.takes c.loop-rest.sink).zeros (g.K.Sink.takes c.write.new.self).zeros c.in-Ok.count
          c.loop-rest.rest.now some c.in-Ok.ensures.zero ∙ c.loop-rest.invariant.zeros;
      beside = c.in-Ok.ensures.beside ∙ c.loop-rest.invariant.beside;
    }
