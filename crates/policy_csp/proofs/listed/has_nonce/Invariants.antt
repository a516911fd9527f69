use Rattle.std.proofs.Common.{◌≡◌, drop}
use Rattle.std.specs.List.{list_any}
use Rattle.policy_csp.specs.SourceLists.{is_nonce}
use Rattle.policy_csp.proofs.listed.has_nonce.Given as goal

-- none so far
abbrev pub invariant-loop-index : goal.invariant-loop-index
invariant-loop-index l = list_any (is_nonce l.nonce) l.sources ≡ list_any (is_nonce l.nonce) (drop l.index l.sources)
