use Rattle.audit_text.proofs.LineLemmas.{no-heading, passes-more}
use Rattle.audit_text.proofs.history.after_heading.Goals as goal

pub loop-first-preserved : goal.loop-first-preserved
loop-first-preserved c =
    passes-more c.args.play.now c.loop-first.rest.now c.in-Some.first.now c.in-Some.after.now c.loop-first.invariant
    c.in-Some.ensures c.if-is_heading.ensures

pub returns : goal.returns
returns c = no-heading c.args.play.now c.loop-first.rest.now c.loop-first.invariant c.in_default.ensures
