use Rattle.std.proofs.Common.{take, Result, Ok}
use Rattle.std.specs.List.{flat_map}
use Rattle.play_text.specs.declared.failure.Failure.{Failure}
use Rattle.play_text.specs.Text as spec
use Rattle.play_text.specs.Writes.{Writes}
use Rattle.play_text.proofs.play.put_transcripts.Given as goal

abbrev pub invariant-loop-transcript : goal.invariant-loop-transcript
invariant-loop-transcript g l =
    let done : Result (Unit {0}) Failure = Ok tt in
    Writes (g.K.Sink.takes l.fn.sink) (g.K.Sink.takes l.sink)
    (flat_map spec.transcript_text (take l.transcript-index l.transcripts)) done
