use Rattle.std.proofs.Common.{◌≡◌, drop}
use Rattle.std.specs.List.{list_any}
use Rattle.policy_csp.specs.SourceLists.{is_hash}
use Rattle.policy_csp.proofs.listed.has_hash.Given as goal

-- none so far
abbrev pub invariant-loop-index : goal.invariant-loop-index
invariant-loop-index l = list_any (is_hash l.hash) l.sources ≡ list_any (is_hash l.hash) (drop l.index l.sources)
