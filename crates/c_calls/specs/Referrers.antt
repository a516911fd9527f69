-- Referrer policies by their numbers, and what is told of a referrer.
use Rattle.std.specs.Prelude.{◌≡◌, ℕ, ◌==◌, Option, Some, None, if◌then◌else◌}
use Rattle.value_text.specs.Texts.{Text}
use Rattle.c_handle.specs.Codes.{IsKept, IsTextTold}
use Rattle.c_handle.specs.declared.codes.TheConstants.{NO_SUCH_NUMBER}
use Rattle.value_requests.specs.declared.mode.ReferrerPolicy.{ReferrerPolicy}
use Rattle.value_requests.specs.declared.mode.ReferrerPolicy.TheVariants as policy
use Rattle.c_rules.specs.Referrers.{told_referrer}

-- the policy of a number
abbrev pub policy_numbered : ℕ → Option ReferrerPolicy
policy_numbered number =
    if number == 0 then Some policy.Empty
    else if number == 1 then Some policy.NoReferrer
    else if number == 2 then Some policy.NoReferrerWhenDowngrade
    else if number == 3 then Some policy.SameOrigin
    else if number == 4 then Some policy.Origin
    else if number == 5 then Some policy.StrictOrigin
    else if number == 6 then Some policy.OriginWhenCrossOrigin
    else if number == 7 then Some policy.StrictOriginWhenCrossOrigin
    else if number == 8 then Some policy.UnsafeUrl
    else None

-- the referrer that a policy tells is written, or why there is none is told
abbrev pub IsReferrerBy : Option ReferrerPolicy → Text → Text → Text → Text → ℕ → ℕ → ℕ → Type 0
IsReferrerBy None source target room after len_before len code =
    (code ≡ NO_SUCH_NUMBER) × IsKept room after len_before len
IsReferrerBy (Some policy) source target room after len_before len code =
    IsTextTold (told_referrer policy source target) room after len_before len code

abbrev pub IsReferrer : ℕ → Text → Text → Text → Text → ℕ → ℕ → ℕ → Type 0
IsReferrer number = IsReferrerBy (policy_numbered number)
