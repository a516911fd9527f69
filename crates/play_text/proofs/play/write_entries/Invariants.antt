use Rattle.std.proofs.Common.{length}
use Rattle.std.specs.List.{flat_map}
use Rattle.play_text.specs.Text as spec
use Rattle.play_text.proofs.WriteLemmas.{Onward}
use Rattle.play_text.proofs.play.write_entries.Given as goal

abbrev pub invariant-loop-rest : goal.invariant-loop-rest
invariant-loop-rest g l =
    Onward (g.K.Sink.takes l.fn.sink) (g.K.Sink.takes l.sink) (flat_map spec.entry_line l.rest)
    (flat_map spec.entry_line l.entries)

abbrev pub decreases-loop-rest : goal.decreases-loop-rest
decreases-loop-rest g l = length l.rest
