use Rattle.std.proofs.Common.{◌+◌, drop}
use Rattle.std.specs.List.{flat_map}
use Rattle.play_text.specs.Text as spec
use Rattle.play_text.proofs.LineLemmas.{flat_map-split, flat_map-take}
use Rattle.play_text.proofs.WriteLemmas.{writes-append, writes-before, writes-failed, writes-refused}
use Rattle.play_text.proofs.play.put_transcripts.Goals as goal

pub returns-in_err-text : goal.returns-in_err-text
returns-in_err-text g c =
    rw (flat_map-split spec.transcript_text c.args.transcripts.now c.loop-transcript.transcript-index)
    (writes-refused (flat_map spec.transcript_text (drop c.loop-transcript.transcript-index c.args.transcripts.now))
    c.from_residual.result c.from_residual.ensures.1 c.loop-transcript.invariant)

pub returns-in_err-write_text : goal.returns-in_err-write_text
returns-in_err-write_text g c =
    writes-failed c.from_residual-in_err-write_text.result c.from_residual-in_err-write_text.ensures.1
    (rw (
      flat_map-split spec.transcript_text c.args.transcripts.now (c.loop-transcript.transcript-index + 1),
      flat_map-take spec.transcript_text c.args.transcripts.now c.loop-transcript.transcript-index
          c.transcript-item.result c.loop-transcript-test.true c.transcript-item.is,
      ← c.in_ok-text.ensures,
      ← c.as_slice.ensures,
    )
    (writes-before (flat_map spec.transcript_text
    (drop (c.loop-transcript.transcript-index + 1) c.args.transcripts.now))
    (writes-append c.loop-transcript.invariant c.in_err-write_text.ensures)))

pub loop-transcript-preserved : goal.loop-transcript-preserved
loop-transcript-preserved g c =
    rw (
      flat_map-take spec.transcript_text c.args.transcripts.now c.loop-transcript.transcript-index
          c.transcript-item.result c.loop-transcript-test.true c.transcript-item.is,
      ← c.in_ok-text.ensures,
      ← c.as_slice.ensures,
    )
    (writes-append c.loop-transcript.invariant c.in_ok-write_text.ensures)
