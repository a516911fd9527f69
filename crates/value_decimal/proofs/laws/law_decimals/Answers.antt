use Rattle.value_decimal.proofs.DecimalLemmas.{number-read, number-writes}
use Rattle.value_decimal.proofs.laws.law_decimals.Goals as goal

pub returns-clause-read : goal.returns-clause-read
returns-clause-read c = number-read

pub returns-clause-only : goal.returns-clause-only
returns-clause-only c = number-writes
