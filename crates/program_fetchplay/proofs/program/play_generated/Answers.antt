use Rattle.std.proofs.Common.{inr, refl}
use Rattle.play_text.specs.Summary.{summary_text}
use Rattle.program_fetchplay.specs.Program.{IsSummary}
use Rattle.program_fetchplay.proofs.ProgramLemmas.{text-written}
use Rattle.program_fetchplay.proofs.program.play_generated.Goals as goal

pub returns : goal.returns
returns g c =
    let played = c.in-Ok.played in
    rw c.status_of.ensures
    (inr (text-written (IsSummary c.args.count) (summary_text c.args.count played.transcripts played.history)
    (g.K.Sink.takes c.args.output.now) (g.K.Sink.takes c.write_summary-written.new.sink)
    c.write_summary-written.result
    (record {
      transcripts = played.transcripts;
      history = played.history;
      play = c.in-Ok.ensures.played;
      text_is = refl;
    })
    c.write_summary-written.ensures))
