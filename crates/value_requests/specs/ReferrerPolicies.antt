-- The referrer policy of a header list (Referrer Policy, section 8.1, "parse a referrer policy from a `Referrer-Policy`
-- header").
use Rattle.std.specs.Prelude.{◌==◌, List, [], ◌∷◌, map, codes, Option, Some, None, unwrap_or}
use Rattle.std.specs.List.{filter_map, find, last_or, slice_split}
use Rattle.std.specs.Str.{str_eq_ignore_ascii_case}
use Rattle.value_text.specs.Texts.{Text}
use Rattle.value_text.specs.Ascii.{comma}
use Rattle.value_text.specs.Trims.{tab_or_space, trimmed}
use Rattle.value_headers.specs.declared.headers.Header.{Header}
use Rattle.value_headers.specs.Headers.{combined}
use Rattle.value_requests.specs.declared.mode.ReferrerPolicy.{ReferrerPolicy}
use Rattle.value_requests.specs.declared.mode.ReferrerPolicy.TheVariants as policy
use Rattle.value_requests.specs.Names.{policy_name}

-- the policies that a token names
abbrev pub named_policies : List ReferrerPolicy
named_policies =
    policy.NoReferrer ∷ policy.NoReferrerWhenDowngrade ∷ policy.SameOrigin ∷ policy.Origin ∷ policy.StrictOrigin
    ∷ policy.OriginWhenCrossOrigin ∷ policy.StrictOriginWhenCrossOrigin ∷ policy.UnsafeUrl ∷ []

-- the policy that a token names, in any ASCII case (this project's own choice)
abbrev pub policy_named : Text → Option ReferrerPolicy
policy_named token = find (λ named. str_eq_ignore_ascii_case (policy_name named) token) named_policies

-- the tokens of a value: what stands between its commas, without tabs and spaces around it
abbrev pub policy_tokens : Text → List Text
policy_tokens value = map (trimmed tab_or_space) (slice_split (λ byte. byte == comma) value)

-- the last policy that a token of the value names; empty where none does
abbrev pub policy_of_value : Text → ReferrerPolicy
policy_of_value value = unwrap_or (last_or None (filter_map policy_named (policy_tokens value))) policy.Empty

-- the policy of the value, where there is one
abbrev pub policy_where : Option Text → ReferrerPolicy
policy_where None = policy.Empty
policy_where (Some value) = policy_of_value value

-- "parse a referrer policy from a `Referrer-Policy` header": the last known token of the combined value
abbrev pub policy_of_header : List Header → ReferrerPolicy
policy_of_header headers = policy_where (combined (codes "Referrer-Policy") headers)

-- the policy, or another one where it is empty
abbrev pub policy_or : ReferrerPolicy → ReferrerPolicy → ReferrerPolicy
policy_or policy.Empty other = other
policy_or named other = named
