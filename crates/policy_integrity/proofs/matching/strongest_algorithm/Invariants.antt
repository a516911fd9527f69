use Rattle.std.proofs.Common.{◌≡◌, drop, max}
use Rattle.std.specs.List.{fold}
use Rattle.policy_integrity.specs.Matching.{strongest_algorithm}
use Rattle.policy_integrity.proofs.matching.strongest_algorithm.Given as goal

abbrev pub invariant-loop-hash : goal.invariant-loop-hash
invariant-loop-hash l =
    fold (λ strongest hash. max strongest hash.algorithm) l.strongest (drop l.hash-index l.metadata)
    ≡ strongest_algorithm l.metadata
