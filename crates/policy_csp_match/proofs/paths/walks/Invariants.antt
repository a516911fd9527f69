use Rattle.std.proofs.Common.{◌≡◌, length}
use Rattle.policy_csp_match.specs.Paths.{pieces}
use Rattle.policy_csp_match.specs.Private.Walking.{walks}
use Rattle.policy_csp_match.proofs.paths.walks.Given as goal

abbrev pub invariant-pieces : goal.invariant-pieces
invariant-pieces l = walks l.more (pieces l.left) (pieces l.url_left) ≡ walks l.more (pieces l.path) (pieces l.url_path)

abbrev pub decreases-pieces : goal.decreases-pieces
decreases-pieces l = length l.left
