use Rattle.script_generated.proofs.GeneratedLemmas.{address-of_text}
use Rattle.script_generated.proofs.laws.law_addresses.Goals as goal

pub returns : goal.returns
returns c = address-of_text
