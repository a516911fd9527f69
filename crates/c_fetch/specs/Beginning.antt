-- The fetch of what is asked for, or why there is none.
use Rattle.std.specs.Prelude.{◌≡◌, ℕ, Option, Some, None, Result, Ok, Err}
use Rattle.c_fetch.specs.Terms.{Context, Nothing, Request, Session, Standing, TypeFault, begun, context_of, fetch}
use Rattle.c_fetch.specs.Terms.{new_load, new_request, standing_of}
use Rattle.c_fetch.specs.Settings.{policies_in}
use Rattle.c_fetch.specs.Setups.{Setup}
use Rattle.c_fetch.specs.declared.asked.Asked.{Asked}
use Rattle.c_fetch.specs.declared.asked.Asked.TheVariants.{Fetch, Load}

-- the request of what is asked for, or its fault
abbrev pub request_for : Setup → Asked → Result Request TypeFault
request_for settings (Fetch init) = new_request settings.client init
request_for settings (Load init) = new_load settings.client init

-- what the settings lend a fetch at a time
abbrev pub setup_at : Setup → ℕ → Context
setup_at settings now = context_of settings.client (policies_in settings.policies) settings.cookies now

-- the whole fetch of a request at its beginning
abbrev pub at_beginning : Setup → ℕ → ℕ → Request → Standing
at_beginning settings now limit request =
    begun (fetch (setup_at settings now) request) (record { framing = Nothing; limit = limit })

-- where there is a request, its fetch
abbrev pub begun_by : Setup → ℕ → ℕ → Result Request TypeFault → Result Standing TypeFault
begun_by settings now limit (Ok request) = Ok (at_beginning settings now limit request)
begun_by settings now limit (Err fault) = Err fault

-- the fetch of what is asked for at its beginning, or the fault
abbrev pub begun_as : Setup → Asked → ℕ → ℕ → Result Standing TypeFault
begun_as settings asked now limit = begun_by settings now limit (request_for settings asked)

-- the session stands there, or the fault is told
abbrev pub IsBegun : Result Session TypeFault → Result Standing TypeFault → Type 0
IsBegun (Ok session) (Ok standing) = standing_of session ≡ Some standing
IsBegun (Err fault) (Err expected) = fault ≡ expected
IsBegun _ _ = ⊥
