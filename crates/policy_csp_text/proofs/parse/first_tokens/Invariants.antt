use Rattle.std.proofs.Common.{◌≡◌, ◌++◌, drop, filter, map}
use Rattle.policy_csp_text.specs.Policies.{first_of_each}
use Rattle.policy_csp_text.specs.Private.Collecting.{AreNames, directives_in, is_new}
use Rattle.policy_csp_text.proofs.parse.first_tokens.Given as goal

-- the directives of the first tokens so far, and those of the tokens that are left; and the names of the first ones
abbrev pub invariant-loop-token : goal.invariant-loop-token
invariant-loop-token l =
    (directives_in (map (λ first. first.now) l.firsts.items)
    ++ filter (is_new (directives_in (map (λ first. first.now) l.firsts.items)))
    (first_of_each (directives_in (map (λ token. token.now) (drop l.token-index l.tokens))))
    ≡ first_of_each (directives_in (map (λ token. token.now) l.tokens)))
    × AreNames (λ key. key.items) l.names.keys (directives_in (map (λ first. first.now) l.firsts.items))
