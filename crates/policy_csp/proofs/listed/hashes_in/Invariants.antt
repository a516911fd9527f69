use Rattle.std.proofs.Common.{◌≡◌, ◌||◌, drop}
use Rattle.std.specs.List.{list_any}
use Rattle.policy_csp.specs.Private.Hashes.{is_in}
use Rattle.policy_csp.specs.SourceLists.{is_hash}
use Rattle.policy_integrity.specs.declared.metadata.HashExpression.{HashExpression}
use Rattle.policy_csp.proofs.listed.hashes_in.Given as goal

-- the hash-sources so far, and those of the sources that are left
abbrev pub invariant-loop-index : goal.invariant-loop-index
invariant-loop-index l = (hash : HashExpression)
    → (is_in hash l.hashes.keys || list_any (is_hash hash) (drop l.index l.sources))
    ≡ list_any (is_hash hash) l.sources
