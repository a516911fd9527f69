use Rattle.policy_integrity.proofs.TokenLemmas.{hash_of_parts}
use Rattle.policy_integrity.proofs.parse.hash_of.Goals as goal

pub returns : goal.returns
returns c =
    rw (hash_of_parts _ _ _ _ _ c.before_byte-expression.ensures c.before_byte.ensures c.after_byte.ensures
    c.algorithm_named-algorithm.ensures) c.expression_of.ensures
