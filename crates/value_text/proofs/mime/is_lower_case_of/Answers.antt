use Rattle.std.proofs.Common.{◌∙◌}
use Rattle.value_text.proofs.LowerLemmas.{lowered-pairs}
use Rattle.value_text.proofs.mime.is_lower_case_of.Goals as goal

pub returns-then-lower-text : goal.returns-then-lower-text
returns-then-lower-text c = c.are_lowered.ensures ∙ lowered-pairs c.args.lower.now c.args.text.now c.if-lower-text.true
