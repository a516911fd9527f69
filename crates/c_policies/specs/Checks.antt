-- What the calls tell that look at a request before it is sent.
use Rattle.std.specs.Prelude.{◌≡◌, ℕ, ◌==◌, Bool, List, length, slice_get, Option, Some, None, Result, Ok, Err}
use Rattle.std.specs.Prelude.{option_map, if◌then◌else◌}
use Rattle.value_text.specs.Texts.{Text}
use Rattle.value_requests.specs.Names.{directive_name}
use Rattle.value_requests.specs.declared.policy.Violation.{Violation}
use Rattle.c_checks.specs.Checks as checks
use Rattle.c_checks.specs.Checks.{violations_of}
use Rattle.c_checks.specs.declared.checks.Check.{Check}
use Rattle.c_checks.specs.declared.checks.Check.TheVariants.{Enforced, ReportOnly, Response}
use Rattle.c_fetch.specs.Setups.{Setup}
use Rattle.c_fetch.specs.declared.asked.Asked.{Asked}
use Rattle.c_handle.specs.Codes.{code_of, told, yes_or_no}
use Rattle.c_handle.specs.Things.{both, code_by, held_client, held_policies, held_request, held_violations}
use Rattle.c_handle.specs.Things.{TextBy}
use Rattle.policy_csp_text.specs.declared.policy.Policy.{Policy}
use Rattle.c_handle.specs.declared.codes.TheConstants.{NO, NO_SUCH_NUMBER, OK, WRONG_HANDLE}
use Rattle.c_handle.specs.declared.thing.Thing.{Thing}
use Rattle.c_handle.specs.declared.thing.Thing.TheVariants as thing
use Rattle.c_rules.specs.declared.refusal.Refusal.{Refusal}

-- ---- mixed content

abbrev pub mixed_upgraded : Option Thing → Option Thing → Text → ℕ
mixed_upgraded client request redirect =
    code_by (both (held_client client) (held_request request))
    (λ it. told (checks.is_mixed_upgraded it.0 it.1 redirect))

abbrev pub mixed_blocked : Option Thing → Option Thing → Text → ℕ
mixed_blocked client request redirect =
    code_by (both (held_client client) (held_request request))
    (λ it. told (checks.is_mixed_blocked it.0 it.1 redirect))

-- ---- violations

-- the check of a number
abbrev pub check_numbered : ℕ → Option Check
check_numbered number =
    if number == 0 then Some Enforced
    else if number == 1 then Some ReportOnly
    else if number == 2 then Some Response
    else None

-- the handle holds what was found, or what it held
abbrev pub HasFound : Result (List Violation) Refusal → ℕ → Option Thing → Option Thing → Type 0
HasFound (Ok found) code before held =
    (code ≡ yes_or_no (length found == 0)) × (held ≡ Some (thing.Violations found))
HasFound (Err refusal) code before held = (code ≡ code_of refusal) × (held ≡ before)

-- no check was made
abbrev pub IsUnchecked : ℕ → ℕ → Option Thing → Option Thing → Type 0
IsUnchecked expected code before held = (code ≡ expected) × (held ≡ before)

abbrev pub HasFoundOf :
    Check → Option ((List Policy × Setup) × Asked) → Text → ℕ → Option Thing → Option Thing → Type 0
HasFoundOf check None redirect = IsUnchecked WRONG_HANDLE
HasFoundOf check (Some it) redirect = HasFound (violations_of check it.0.0 it.0.1 it.1 redirect)

abbrev pub HasFoundBy :
    Option Check → Option Thing → Option Thing → Option Thing → Text → ℕ → Option Thing → Option Thing → Type 0
HasFoundBy None policies client request = λ redirect. IsUnchecked NO_SUCH_NUMBER
HasFoundBy (Some check) policies client request =
    HasFoundOf check (both (both (held_policies policies) (held_client client)) (held_request request))

-- a violation's policy is told, if there is one
abbrev pub IsViolation : Option Violation → ℕ → ℕ → ℕ → ℕ → ℕ → Type 0
IsViolation None policy_before policy enforced_before enforced code =
    (code ≡ NO) × (policy ≡ policy_before) × (enforced ≡ enforced_before)
IsViolation (Some violation) policy_before policy enforced_before enforced code =
    (code ≡ OK) × (policy ≡ violation.policy) × (enforced ≡ (if violation.enforced then 1 else 0))

abbrev pub IsViolationOf : ℕ → Option (List Violation) → ℕ → ℕ → ℕ → ℕ → ℕ → Type 0
IsViolationOf at None = λ policy_before policy enforced_before enforced code.
    (code ≡ WRONG_HANDLE) × (policy ≡ policy_before) × (enforced ≡ enforced_before)
IsViolationOf at (Some found) = IsViolation (slice_get found at)

abbrev pub IsViolationAt : ℕ → Option Thing → ℕ → ℕ → ℕ → ℕ → ℕ → Type 0
IsViolationAt at held = IsViolationOf at (held_violations held)

-- the effective directive of a violation, and the URL that is reported
abbrev pub IsDirectiveAt : ℕ → Option Thing → Text → Text → ℕ → ℕ → ℕ → Type 0
IsDirectiveAt at held =
    TextBy (held_violations held)
    (λ found. Ok (option_map (λ violation. directive_name violation.directive) (slice_get found at)))

abbrev pub IsUrlAt : ℕ → Option Thing → Text → Text → ℕ → ℕ → ℕ → Type 0
IsUrlAt at held =
    TextBy (held_violations held) (λ found. Ok (option_map (λ violation. violation.url) (slice_get found at)))
