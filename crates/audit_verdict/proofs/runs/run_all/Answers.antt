use Rattle.std.proofs.Common.{◌+◌, subst, sym}
use Rattle.audit_verdict.specs.Private.Runs.{IsRun}
use Rattle.audit_verdict.proofs.DocumentLemmas.{CameSoFar, none-yet, one-more-came}
use Rattle.audit_verdict.proofs.runs.run_all.Goals as goal

pub loop-number-init : goal.loop-number-init
loop-number-init c =
    subst (CameSoFar c.args.scenario.now c.args.history.now 0) (sym c.new-transcripts.ensures)
    (none-yet c.args.scenario.now c.args.history.now)

pub loop-number-preserved : goal.loop-number-preserved
loop-number-preserved c =
    subst (CameSoFar c.args.scenario.now c.args.history.now (c.loop-number.number + 1))
    (sym c.in_ok-push-in-Some.ensures.ok)
    (one-more-came c.args.scenario.now c.args.history.now c.loop-number.number c.loop-number.transcripts
    c.in-Some.transcript c.loop-number.invariant
    (subst (IsRun c.args.scenario.now c.args.history.now c.loop-number.number) c.in-Some.is c.in_ok-transcript.ensures))
