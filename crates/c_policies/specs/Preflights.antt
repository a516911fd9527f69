-- What the calls tell of a request's preflight.
use Rattle.std.specs.Prelude.{◌≡◌, ℕ, List, Option, Some, None, Result, Ok, Err}
use Rattle.value_text.specs.Texts.{Text}
use Rattle.policy_preflight.specs.declared.answer.Checked.{Checked}
use Rattle.policy_preflight.specs.declared.answer.Checked.TheVariants.{Pass, Refused}
use Rattle.value_headers.specs.declared.headers.Header.{Header}
use Rattle.value_requests.specs.Errors.{error_number}
use Rattle.value_requests.specs.declared.hop.Head.{Head}
use Rattle.c_checks.specs.Preflights.{preflight_bytes, preflight_verdict, refused_name}
use Rattle.c_fetch.specs.Setups.{Setup}
use Rattle.c_fetch.specs.declared.asked.Asked.{Asked}
use Rattle.c_handle.specs.Codes.{code_of}
use Rattle.c_handle.specs.Things.{both, held_client, held_headers, held_request, TextBy}
use Rattle.c_handle.specs.declared.codes.TheConstants.{NO, OK, WRONG_HANDLE}
use Rattle.c_handle.specs.declared.thing.Thing.{Thing}
use Rattle.c_rules.specs.declared.refusal.Refusal.{Refusal}

-- the bytes of the preflight are written
abbrev pub IsPreflight : Option Thing → Option Thing → Text → Text → ℕ → ℕ → ℕ → Type 0
IsPreflight client request =
    TextBy (both (held_client client) (held_request request)) (λ it. preflight_bytes it.0 it.1)

-- an answer of a status and a header list
abbrev pub head_of : ℕ → List Header → Head
head_of status list = record { status = status; headers = list }

-- the age is told of a pass, and the number of the network error of a refusal
abbrev pub IsVerdict : Result Checked Refusal → ℕ → ℕ → ℕ → ℕ → ℕ → Type 0
IsVerdict (Ok (Pass age methods names)) error_before error age_before told code =
    (code ≡ OK) × (error ≡ error_before) × (told ≡ age)
IsVerdict (Ok (Refused reason)) error_before error age_before told code =
    (code ≡ NO) × (error ≡ error_number reason) × (told ≡ age_before)
IsVerdict (Err refusal) error_before error age_before told code =
    (code ≡ code_of refusal) × (error ≡ error_before) × (told ≡ age_before)

abbrev pub IsVerdictOf : ℕ → Option ((Setup × Asked) × List Header) → ℕ → ℕ → ℕ → ℕ → ℕ → Type 0
IsVerdictOf status None = λ error_before error age_before told code.
    (code ≡ WRONG_HANDLE) × (error ≡ error_before) × (told ≡ age_before)
IsVerdictOf status (Some it) = IsVerdict (preflight_verdict it.0.0 it.0.1 (head_of status it.1))

abbrev pub IsVerdictOn : ℕ → Option Thing → Option Thing → Option Thing → ℕ → ℕ → ℕ → ℕ → ℕ → Type 0
IsVerdictOn status client request headers =
    IsVerdictOf status (both (both (held_client client) (held_request request)) (held_headers headers))

-- the name of the header that is refused is written
abbrev pub IsRefusedName : ℕ → Option Thing → Option Thing → Option Thing → Text → Text → ℕ → ℕ → ℕ → Type 0
IsRefusedName status client request headers =
    TextBy (both (both (held_client client) (held_request request)) (held_headers headers))
    (λ it. refused_name it.0.0 it.0.1 (head_of status it.1))
