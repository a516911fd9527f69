-- The strongest hash expressions, looked through with one digest.
use Rattle.std.proofs.Common.{◌≡◌, ◌==◌, ◌&&◌, ℕ, List, Option, [], ◌∷◌, filter, refl, arith}
use Rattle.std.proofs.lemmas.Grind.{common_steps}
use Rattle.std.specs.List.{list_any}
use Rattle.policy_integrity.specs.Matching.{has_digest, reads_as, strongest, strongest_algorithm, written_digest}
use Rattle.policy_integrity.specs.declared.metadata.HashExpression.{HashExpression}

-- one of the hash expressions of an algorithm has the body's digest: its digest by that algorithm
pub any_of_algorithm : (body : List ℕ) (algorithm : ℕ) (metadata : List HashExpression)
    → list_any (λ hash. hash.algorithm == algorithm && reads_as hash.value (written_digest algorithm body)) metadata
    ≡ list_any (has_digest body) (filter (λ hash. hash.algorithm == algorithm) metadata)
any_of_algorithm body algorithm [] = refl
any_of_algorithm body algorithm (hash ∷ metadata) =
    grind (arith, common_steps, any_of_algorithm body algorithm metadata)

-- the same of the strongest algorithm
pub any_by_digest : (body : List ℕ) (metadata : List HashExpression) (algorithm : ℕ) (digest : Option (List ℕ))
    → algorithm ≡ strongest_algorithm metadata → digest ≡ written_digest algorithm body
    → list_any (λ hash. hash.algorithm == algorithm && reads_as hash.value digest) metadata
    ≡ list_any (has_digest body) (strongest metadata)
any_by_digest body metadata algorithm digest a d =
    rw (d, a) (any_of_algorithm body (strongest_algorithm metadata) metadata)
