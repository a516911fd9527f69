use Rattle.std.proofs.Common.{◌≡◌, drop}
use Rattle.std.specs.List.{list_any}
use Rattle.policy_csp_match.specs.Matching.{matches}
use Rattle.policy_csp_match.specs.Private.Places.{sources_in}
use Rattle.policy_csp_match.proofs.list.any_in_matches.Given as goal

-- none so far
abbrev pub invariant-loop-one : goal.invariant-loop-one
invariant-loop-one l =
    list_any (λ source. matches source l.url l.document l.redirects) (sources_in l.text l.stored)
    ≡ list_any (λ source. matches source l.url l.document l.redirects) (sources_in l.text (drop l.one-index l.stored))
