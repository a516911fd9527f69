use Rattle.audit_text.proofs.LineLemmas.{no-done, read-is}
use Rattle.audit_text.proofs.history.read_history.Goals as goal

pub returns-in_default-before_done : goal.returns-in_default-before_done
returns-in_default-before_done c =
    no-done c.args.play.now c.in-Some.rest.now c.in-Some.ensures c.in_default-before_done.ensures

pub returns : goal.returns
returns c =
    read-is c.read_lines.result c.args.play.now c.in-Some.rest.now c.in-Some-before_done.lines.now c.in-Some.ensures
    c.in-Some-before_done.ensures c.read_lines.ensures
