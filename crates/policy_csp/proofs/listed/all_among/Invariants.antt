use Rattle.std.proofs.Common.{◌≡◌, drop}
use Rattle.std.specs.List.{list_all}
use Rattle.policy_csp.specs.Private.Hashes.{is_in}
use Rattle.policy_csp.proofs.listed.all_among.Given as goal

-- all so far are there
abbrev pub invariant-loop-hash : goal.invariant-loop-hash
invariant-loop-hash l =
    list_all (λ hash. is_in hash l.hashes.keys) l.metadata
    ≡ list_all (λ hash. is_in hash l.hashes.keys) (drop l.hash-index l.metadata)
