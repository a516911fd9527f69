use Rattle.std.proofs.Common.{◌==◌, ◌∙◌, rules, tests}
use Rattle.std.proofs.lemmas.Iterator.Search.{any_from_yields_List}
use Rattle.std.proofs.lemmas.Iterator.Splits.{YieldsList-from_slice_split}
use Rattle.std.specs.List.{slice_split}
use Rattle.std.specs.Option.{is_some}
use Rattle.policy_csp_text.proofs.CountLemmas.{any-directive}
use Rattle.policy_csp_text.specs.Policies.{directive_of}
use Rattle.value_text.specs.Ascii.{semicolon}
use Rattle.policy_csp_text.proofs.counting.has_directive.Goals as goal

pub returns : goal.returns
returns c =
    any_from_yields_List (λ token. is_some (directive_of token)) _ _ _ c.any.ensures.ran
    (YieldsList-from_slice_split _ _ c.args.text.now c.split.ensures.rest c.split.ensures.done c.split.ensures.closure
    (λ x b q k. search (rules, tests)))
    (λ x b q k. search (rules, tests))
    ∙ any-directive (slice_split (λ byte. byte == semicolon) c.args.text.now)
