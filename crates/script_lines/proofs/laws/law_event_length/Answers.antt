use Rattle.script_lines.proofs.LengthLemmas.{of_event}
use Rattle.script_lines.proofs.laws.law_event_length.Goals as goal

pub returns : goal.returns
returns c = of_event
