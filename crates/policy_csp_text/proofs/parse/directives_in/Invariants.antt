use Rattle.std.proofs.Common.{◌≡◌, ◌++◌, drop, map}
use Rattle.policy_csp_text.specs.Private.Collecting.{directives_in}
use Rattle.policy_csp_text.proofs.parse.directives_in.Given as goal

abbrev pub invariant-loop-token : goal.invariant-loop-token
invariant-loop-token l =
    l.directives ++ directives_in (map (λ token. token.now) (drop l.token-index l.tokens))
    ≡ directives_in (map (λ token. token.now) l.tokens)
