use Rattle.std.proofs.Common.{◌-◌, length, vec_len}
use Rattle.link_traits.proofs.SourceLemmas.{Reading}
use Rattle.link_traits.proofs.source.read_whole.Given as goal

abbrev pub invariant-loop-text : goal.invariant-loop-text
invariant-loop-text g l =
    Reading (vec_len l.buffer) (g.S.Source.gives l.fn.source).left (g.S.Source.gives l.source).left l.text l.most
    (g.S.Source.gives l.fn.source).faults (g.S.Source.gives l.source).faults

abbrev pub decreases-loop-text : goal.decreases-loop-text
decreases-loop-text g l = l.most - length l.text
