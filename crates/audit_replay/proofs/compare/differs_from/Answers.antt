use Rattle.std.proofs.Common.{Result, Err, ap, ◌∙◌}
use Rattle.play_text.specs.Text.{play_text}
use Rattle.play_text.specs.Writes.{faults_after}
use Rattle.play_text.specs.declared.failure.Failure.{Failure}
use Rattle.audit_replay.proofs.CompareLemmas.{differs-part, differs-whole}
use Rattle.audit_replay.proofs.compare.differs_from.Goals as goal

pub returns-in-Err-Fault : goal.returns-in-Err-Fault
returns-in-Err-Fault c =
    differs-part c.args.text.now (play_text c.args.transcripts.now c.args.history.now) c.with-sink.result
    c.write_play.new.sink c.difference.result c.with-sink.ensures c.in-Err-Fault.ensures.err c.difference.ensures.is
    (c.in-Err-Fault.ensures.faults
    ∙ ap (λ (f : Failure). let r : Result (Unit {0}) Failure = Err f in faults_after c.with-sink.result.faults r)
    c.in-Err-Fault.field-0-is)
    c.difference.ensures.at

pub returns-in-Ok : goal.returns-in-Ok
returns-in-Ok c =
    differs-whole c.args.text.now (play_text c.args.transcripts.now c.args.history.now) c.with-sink.result
    c.write_play.new.sink c.difference-in-Ok.result c.with-sink.ensures c.in-Ok.ensures.ok c.difference-in-Ok.ensures.is
    c.difference-in-Ok.ensures.at
