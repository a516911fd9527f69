use Rattle.std.proofs.Common.{◌==◌, ◌∙◌, true, rules, tests}
use Rattle.std.proofs.lemmas.Iterator.Consumers.{YieldsList-at, YieldsList-from_filter, count_from_yields_List}
use Rattle.std.proofs.lemmas.Iterator.Splits.{YieldsList-from_slice_split}
use Rattle.std.specs.List.{slice_split}
use Rattle.policy_csp_text.proofs.CountLemmas.{count-texts}
use Rattle.policy_csp_text.specs.Policies.{has_directives, policy_of}
use Rattle.value_text.specs.Ascii.{comma}
use Rattle.policy_csp_text.proofs.counting.count_policies.Goals as goal

pub returns : goal.returns
returns c = λ enforced.
    count_from_yields_List _ _ c.count.ensures.ran
    (YieldsList-from_filter _ (λ text. has_directives (policy_of true text))
    (YieldsList-at c.filter.ensures.source
    (YieldsList-from_slice_split _ _ c.args.value.now c.split.ensures.rest c.split.ensures.done c.split.ensures.closure
    (λ x b q k. search (rules, tests))))
    c.filter.ensures.closure (λ x b q k. search (rules, tests)))
    ∙ count-texts enforced (slice_split (λ byte. byte == comma) c.args.value.now)
