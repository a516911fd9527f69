use Rattle.std.proofs.Common.{sym}
use Rattle.policy_csp_match.proofs.PieceLemmas.{pieces_cut, pieces_uncut}
use Rattle.policy_csp_match.proofs.paths.first_piece.Goals as goal

pub returns-in-None-clause-pieces : goal.returns-in-None-clause-pieces
returns-in-None-clause-pieces c = pieces_uncut _ (sym c.in-None.ensures)

pub returns-in-Some-clause-pieces : goal.returns-in-Some-clause-pieces
returns-in-Some-clause-pieces c =
    rw (c.split_at.ensures.front, c.split_at-in-Some.ensures.back) (pieces_cut _ _ (sym c.in-Some.ensures))
