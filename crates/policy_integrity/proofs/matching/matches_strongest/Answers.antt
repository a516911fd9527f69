use Rattle.std.proofs.Common.{◌∙◌}
use Rattle.policy_integrity.proofs.MatchingLemmas.{any_by_digest}
use Rattle.policy_integrity.proofs.matching.matches_strongest.Goals as goal

pub returns : goal.returns
returns c =
    c.any_reads_as.ensures
    ∙ any_by_digest _ _ _ _ c.strongest_algorithm-algorithm.ensures c.in_ok-digest.ensures
