-- What holds of all policies (CSP 3, sections 2.3.1 and 4.1).
use Rattle.std.specs.Prelude.{◌≡◌, Bool, true, false, List, [], ◌∷◌, map, codes}
use Rattle.value_text.specs.Texts.{Text}
use Rattle.policy_csp_text.specs.declared.policy.Directive.{Directive}
use Rattle.policy_csp_text.specs.declared.policy.Policy.{Policy}
use Rattle.value_origins.specs.declared.origin.Origin.{Origin}
use Rattle.value_requests.specs.declared.policy.Violation.{Violation}
use Rattle.value_requests.specs.declared.request.Request.{Request}
use Rattle.policy_csp.specs.Violations.{request_violations}

-- the words of a directive, with 'none' in the place of none
abbrev pub or_none : List Text → List Text
or_none [] = codes "'none'" ∷ []
or_none (word ∷ words) = word ∷ words

-- the directive with the word 'none' where it has no words
abbrev pub saying_none : Directive → Directive
saying_none directive = record directive { words = or_none directive.words }

-- the policy whose directives have the word 'none' where they have no words
abbrev pub with_none : Policy → Policy
with_none policy = record policy { directives = map saying_none policy.directives }

-- directives without words are violated as those whose only word is 'none'
abbrev pub AreEmptyAsNone : List Policy → Request → Origin → Bool → Type 0
AreEmptyAsNone policies request document enforced =
    request_violations (map with_none policies) request document enforced
    ≡ request_violations policies request document enforced

-- the policy in this disposition
abbrev pub in_disposition : Bool → Policy → Policy
in_disposition enforced policy = record policy { enforced = enforced }

-- the violation, whatever the disposition of its policy
abbrev pub without_disposition : Violation → Violation
without_disposition violation = record violation { enforced = false }

-- policies are violated alike where all are enforced and where all are report-only
abbrev pub AreViolatedAlike : List Policy → Request → Origin → Type 0
AreViolatedAlike policies request document =
    map without_disposition (request_violations (map (in_disposition true) policies) request document true)
    ≡ map without_disposition (request_violations (map (in_disposition false) policies) request document false)
