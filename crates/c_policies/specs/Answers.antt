-- What the calls tell of an answer.
use Rattle.std.specs.Prelude.{◌≡◌, ℕ, ◌==◌, List, Option, Some, None, Result, Ok, Err, if◌then◌else◌}
use Rattle.value_requests.specs.declared.mode.Tainting.{Tainting}
use Rattle.value_requests.specs.declared.mode.Tainting.TheVariants.{Basic, Cors, Opaque}
use Rattle.value_requests.specs.declared.response.Response.{Response}
use Rattle.c_checks.specs.Answers as answers
use Rattle.c_checks.specs.Answers.{seen_response}
use Rattle.c_fetch.specs.Setups.{Setup}
use Rattle.c_fetch.specs.declared.asked.Asked.{Asked}
use Rattle.c_handle.specs.Codes.{code_of, told}
use Rattle.c_handle.specs.Things.{both, code_by, held_client, held_headers, held_request}
use Rattle.value_headers.specs.declared.headers.Header.{Header}
use Rattle.c_handle.specs.declared.codes.TheConstants.{NO_SUCH_NUMBER, OK, WRONG_HANDLE}
use Rattle.c_handle.specs.declared.thing.Thing.{Thing}
use Rattle.c_handle.specs.declared.thing.Thing.TheVariants as thing
use Rattle.c_rules.specs.declared.refusal.Refusal.{Refusal}
use Rattle.c_policies.specs.Preflights.{head_of}

-- the response tainting of a number
abbrev pub tainting_numbered : ℕ → Option Tainting
tainting_numbered number =
    if number == 0 then Some Basic
    else if number == 1 then Some Cors
    else if number == 2 then Some Opaque
    else None

-- the handle holds the headers that the page sees, or what it held
abbrev pub Shows : Result Response Refusal → ℕ → Option Thing → Option Thing → ℕ → ℕ → Type 0
Shows (Ok response) code before held seen_before seen =
    (code ≡ OK) × (held ≡ Some (thing.Headers response.headers)) × (seen ≡ response.status)
Shows (Err refusal) code before held seen_before seen =
    (code ≡ code_of refusal) × (held ≡ before) × (seen ≡ seen_before)

-- nothing is shown
abbrev pub IsHidden : ℕ → ℕ → Option Thing → Option Thing → ℕ → ℕ → Type 0
IsHidden expected code before held seen_before seen = (code ≡ expected) × (held ≡ before) × (seen ≡ seen_before)

abbrev pub ShowsOf :
    Tainting → ℕ → Option ((Setup × Asked) × List Header) → ℕ → Option Thing → Option Thing → ℕ → ℕ → Type 0
ShowsOf tainting status None = IsHidden WRONG_HANDLE
ShowsOf tainting status (Some it) = Shows (seen_response it.0.0 it.0.1 tainting (head_of status it.1))

abbrev pub ShowsBy :
    Option Tainting → ℕ → Option Thing → Option Thing → Option Thing → ℕ → Option Thing → Option Thing → ℕ → ℕ
    → Type 0
ShowsBy None status client request headers = IsHidden NO_SUCH_NUMBER
ShowsBy (Some tainting) status client request headers =
    ShowsOf tainting status (both (both (held_client client) (held_request request)) (held_headers headers))

-- ---- MIME types

abbrev pub type_blocked : Option Thing → Option Thing → ℕ
type_blocked request headers =
    code_by (both (held_request request) (held_headers headers)) (λ it. told (answers.is_type_blocked it.0 it.1))

abbrev pub nosniff_blocked : Option Thing → Option Thing → ℕ
nosniff_blocked request headers =
    code_by (both (held_request request) (held_headers headers)) (λ it. told (answers.is_nosniff_blocked it.0 it.1))
