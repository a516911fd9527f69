-- The words for referrer policies in the tables of fetches and loads (Referrer Policy, section 3).
use Rattle.std.specs.Prelude.{List, [], ◌∷◌, codes}
use Rattle.serde_json.specs.Data.{Data}
use Rattle.value_text.specs.Texts.{Text}
use Rattle.value_requests.specs.declared.mode.ReferrerPolicy.{ReferrerPolicy}
use Rattle.value_requests.specs.declared.mode.ReferrerPolicy.TheVariants as policy
use Rattle.value_json.specs.Reading.{Read, word_of, optional}

-- the referrer policies by their names, and the empty one
abbrev pub policies : List (Text × ReferrerPolicy)
policies =
    ([], policy.Empty) ∷ (codes "no-referrer", policy.NoReferrer)
    ∷ (codes "no-referrer-when-downgrade", policy.NoReferrerWhenDowngrade) ∷ (codes "same-origin", policy.SameOrigin)
    ∷ (codes "origin", policy.Origin) ∷ (codes "strict-origin", policy.StrictOrigin)
    ∷ (codes "origin-when-cross-origin", policy.OriginWhenCrossOrigin)
    ∷ (codes "strict-origin-when-cross-origin", policy.StrictOriginWhenCrossOrigin)
    ∷ (codes "unsafe-url", policy.UnsafeUrl) ∷ []

-- the referrer policy, which is empty by itself
abbrev pub policy_of : Data → Read ReferrerPolicy
policy_of tree = optional (codes "referrer_policy") policy.Empty (word_of policies) tree
