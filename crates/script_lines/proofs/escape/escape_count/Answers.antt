use Rattle.std.proofs.Common.{◌∙◌, sym}
use Rattle.script_lines.proofs.EscapeLemmas.{none_escaped}
use Rattle.script_lines.proofs.escape.escape_count.Goals as goal

pub returns-then-are_plain : goal.returns-then-are_plain
returns-then-are_plain c = sym (none_escaped c.args.bytes.now (sym c.are_plain.ensures ∙ c.if-are_plain.true))
