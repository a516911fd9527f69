use Rattle.std.proofs.Common.{refl}
use Rattle.policy_csp_text.proofs.CollectingLemmas.{collected-step}
use Rattle.policy_csp_text.proofs.parse.first_tokens.Goals as goal

pub loop-token-preserved : goal.loop-token-preserved
loop-token-preserved c = (
  collected-step _ _ _ _ _ _ _ c.loop-token-test.true refl c.in_ok-add.ensures.added c.loop-token.invariant.0,
  c.in_ok-add.ensures.names,
)
