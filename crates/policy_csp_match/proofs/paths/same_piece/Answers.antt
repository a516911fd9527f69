use Rattle.percent_encoding.specs.Iter.{decoded_bytes}
use Rattle.policy_csp_match.proofs.PieceLemmas.{equal_from_eq}
use Rattle.policy_csp_match.proofs.paths.same_piece.Goals as goal

pub returns : goal.returns
returns c =
    rw (← c.percent_decode.ensures.bytes, ← c.percent_decode-2.ensures.bytes)
    (equal_from_eq decoded_bytes _ _ _ c.eq.ensures.ran)
