-- The referrer that a request tells.
use Rattle.std.specs.Prelude.{Option, option_map, Result, Ok}
use Rattle.url.specs.Parts.{serialize}
use Rattle.value_text.specs.Texts.{Text}
use Rattle.policy_checks.specs.Referrer.{determine}
use Rattle.value_requests.specs.ReferrerPolicies.{policy_or}
use Rattle.value_requests.specs.declared.mode.ReferrerPolicy.{ReferrerPolicy}
use Rattle.value_requests.specs.declared.mode.ReferrerPolicy.TheVariants.{StrictOriginWhenCrossOrigin}
use Rattle.c_rules.specs.Answers.{and_then}
use Rattle.c_rules.specs.Reading.{web_url_in}
use Rattle.c_rules.specs.declared.refusal.Refusal.{Refusal}

-- the policy; the empty one is as the default one (Referrer Policy, section 3)
abbrev pub policy_in_force : ReferrerPolicy → ReferrerPolicy
policy_in_force policy = policy_or policy StrictOriginWhenCrossOrigin

-- "determine request's Referrer" of a page and a URL, as a text
abbrev pub told_referrer : ReferrerPolicy → Text → Text → Result (Option Text) Refusal
told_referrer policy source target =
    and_then (web_url_in source) (λ source. and_then (web_url_in target)
    (λ target. Ok (option_map serialize (determine (policy_in_force policy) source target))))
