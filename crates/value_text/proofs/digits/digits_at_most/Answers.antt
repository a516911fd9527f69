use Rattle.std.proofs.Common.{arith}
use Rattle.std.proofs.lemmas.Grind.{common_steps}
use Rattle.value_text.proofs.NumberLemmas.{digits_at_most-compared}
use Rattle.value_text.proofs.digits.digits_at_most.Goals as goal

pub returns-then-digits-most : goal.returns-then-digits-most
returns-then-digits-most c = grind (arith, common_steps, digits_at_most-compared)

pub returns-then-digits-most-2 : goal.returns-then-digits-most-2
returns-then-digits-most-2 c = grind (arith, common_steps, digits_at_most-compared)

pub returns-else-digits-most-2 : goal.returns-else-digits-most-2
returns-else-digits-most-2 c = grind (arith, common_steps, digits_at_most-compared)
