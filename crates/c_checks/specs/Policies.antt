-- The policies that a header list has.
use Rattle.std.specs.Prelude.{Bool, true, false, List, [], ◌++◌, codes, Option, Some, None}
use Rattle.value_text.specs.Texts.{Text}
use Rattle.policy_csp_text.specs.Policies.{policies_of}
use Rattle.policy_csp_text.specs.declared.policy.Policy.{Policy}
use Rattle.value_headers.specs.Headers.{combined}
use Rattle.value_headers.specs.declared.headers.Header.{Header}

-- the policies of a field, if it is there
abbrev pub policies_of_field : Bool → Option Text → List Policy
policies_of_field enforced None = []
policies_of_field enforced (Some value) = policies_of enforced value

-- "parse a response's Content Security Policies": the enforced ones, and then the report-only ones
abbrev pub policies_in : List Header → List Policy
policies_in list =
    policies_of_field true (combined (codes "Content-Security-Policy") list)
    ++ policies_of_field false (combined (codes "Content-Security-Policy-Report-Only") list)
