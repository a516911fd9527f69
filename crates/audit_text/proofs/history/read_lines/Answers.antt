use Rattle.std.proofs.Common.{subst}
use Rattle.audit_text.specs.Entries.{IsReading}
use Rattle.audit_text.proofs.LineLemmas.{read-done, read-more}
use Rattle.audit_text.proofs.history.read_lines.Goals as goal

pub loop-first-preserved : goal.loop-first-preserved
loop-first-preserved c =
    read-more c.args.text.now c.loop-first.rest.now c.in-Some.first.now c.in-Some.after.now c.loop-first.history
    c.push.new.self c.in-Some-2.entry c.loop-first.number c.loop-first.invariant c.in-Some.ensures
    (subst (IsReading c.in-Some.first.now) c.in-Some-2.is c.in_ok-entry.ensures) c.in_ok-push.ensures.ok

pub returns : goal.returns
returns c =
    read-done c.args.text.now c.loop-first.rest.now c.loop-first.history c.loop-first.number c.loop-first.invariant
    c.in_default.ensures c.requires
