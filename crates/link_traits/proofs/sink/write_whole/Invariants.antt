use Rattle.std.proofs.Common.{◌≡◌, length}
use Rattle.link_traits.proofs.SinkLemmas.{Wrote}
use Rattle.link_traits.proofs.sink.write_whole.Given as goal

abbrev pub invariant-loop-rest : goal.invariant-loop-rest
invariant-loop-rest g l = record {
  wrote : Wrote (g.K.Sink.takes l.fn.sink).taken (g.K.Sink.takes l.sink).taken l.text l.rest;
  faults : (g.K.Sink.takes l.sink).faults ≡ (g.K.Sink.takes l.fn.sink).faults;
  zeros : (g.K.Sink.takes l.sink).zeros ≡ (g.K.Sink.takes l.fn.sink).zeros;
  beside : g.K.Sink.beside l.sink ≡ g.K.Sink.beside l.fn.sink;
}

abbrev pub decreases-loop-rest : goal.decreases-loop-rest
decreases-loop-rest g l = length l.rest
