-- Where no policy is asked there is no violation.
use Rattle.std.proofs.Common.{◌≡◌, ◌+◌, ℕ, Bool, false, List, [], ◌∷◌, Option, refl}
use Rattle.std.proofs.lemmas.Bool.{or_parts}
use Rattle.std.specs.List.{list_any}
use Rattle.value_origins.specs.declared.origin.Origin.{Origin}
use Rattle.value_requests.specs.declared.request.Request.{Request}
use Rattle.policy_csp.specs.declared.compiled.CompiledPolicy.{CompiledPolicy}
use Rattle.policy_csp.specs.Violations.{is_asked, violations_from}

pub none_asked : (number : ℕ) (asked : Option Bool) (policies : List CompiledPolicy) (request : Request)
    (document : Origin) → list_any (is_asked asked) policies ≡ false
    → violations_from number asked policies request document ≡ []
none_asked number asked [] request document none = refl
none_asked number asked (policy ∷ policies) request document none =
    let each = or_parts (is_asked asked policy) (list_any (is_asked asked) policies) none in
    rw each.0 (none_asked (number + 1) asked policies request document each.1)
