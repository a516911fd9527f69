use Rattle.std.proofs.Common.{codes}
use Rattle.std.specs.List.{flat_map}
use Rattle.play_text.specs.Text as spec
use Rattle.play_text.proofs.WriteLemmas.{writes-append, writes-before, writes-failed}
use Rattle.play_text.proofs.play.put_play.Goals as goal

pub returns-in_err-write_text : goal.returns-in_err-write_text
returns-in_err-write_text g c =
    writes-failed c.from_residual.result c.from_residual.ensures.1
    (writes-before (codes "done\n")
    (writes-before (flat_map spec.entry_line c.args.history.now)
    (writes-before (codes "history\n")
    (writes-before (flat_map spec.transcript_text c.args.transcripts.now) c.in_err-write_text.ensures))))

pub returns-in_err-put_transcripts : goal.returns-in_err-put_transcripts
returns-in_err-put_transcripts g c =
    writes-failed c.from_residual-in_err-put_transcripts.result c.from_residual-in_err-put_transcripts.ensures.1
    (writes-before (codes "done\n")
    (writes-before (flat_map spec.entry_line c.args.history.now)
    (writes-before (codes "history\n") (writes-append c.in_ok-write_text.ensures c.in_err-put_transcripts.ensures))))

pub returns-in_err-write_text-2 : goal.returns-in_err-write_text-2
returns-in_err-write_text-2 g c =
    writes-failed c.from_residual-in_err-write_text-2.result c.from_residual-in_err-write_text-2.ensures.1
    (writes-before (codes "done\n")
    (writes-before (flat_map spec.entry_line c.args.history.now)
    (writes-append (writes-append c.in_ok-write_text.ensures c.in_ok-put_transcripts.ensures)
    c.in_err-write_text-2.ensures)))

pub returns-in_err-write_entries : goal.returns-in_err-write_entries
returns-in_err-write_entries g c =
    writes-failed c.from_residual-in_err-write_entries.result c.from_residual-in_err-write_entries.ensures.1
    (writes-before (codes "done\n")
    (writes-append
    (writes-append (writes-append c.in_ok-write_text.ensures c.in_ok-put_transcripts.ensures)
    c.in_ok-write_text-2.ensures)
    c.in_err-write_entries.ensures))

pub returns : goal.returns
returns g c =
    writes-append
    (writes-append
    (writes-append (writes-append c.in_ok-write_text.ensures c.in_ok-put_transcripts.ensures)
    c.in_ok-write_text-2.ensures)
    c.in_ok-write_entries.ensures) c.write_text-3.ensures
