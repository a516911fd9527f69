use Rattle.std.proofs.Common.{sym}
use Rattle.audit_text.proofs.LineLemmas.{last-lines}
use Rattle.audit_text.proofs.history.are_lines.Goals as goal

pub returns-else-is_empty : goal.returns-else-is_empty
returns-else-is_empty c = last-lines c.args.text.now (sym c.if-is_empty.ensures)
