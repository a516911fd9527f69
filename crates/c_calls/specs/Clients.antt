-- What the calls that make a client tell, and what the handle holds after them.
use Rattle.std.specs.Prelude.{◌≡◌, ℕ, Bool, Option, Some, None, Result, Ok, Err}
use Rattle.c_handle.specs.declared.thing.Thing.TheVariants as thing
use Rattle.c_calls.specs.Terms.{NO_SUCH_NUMBER, OK, ReferrerPolicy, Refusal, Setup, Text, Thing, code_of, cookie_added}
use Rattle.c_calls.specs.Terms.{held_client, settings_of, with_policies}
use Rattle.c_calls.specs.Calls.{Done, done, done_by}
use Rattle.c_calls.specs.Referrers.{policy_numbered}

-- the handle holds the client, or what it held
abbrev pub IsClientOf : Result Setup Refusal → ℕ → Option Thing → Option Thing → Type 0
IsClientOf (Ok settings) code before held = (code ≡ OK) × (held ≡ Some (thing.Client settings))
IsClientOf (Err refusal) code before held = (code ≡ code_of refusal) × (held ≡ before)

abbrev pub IsClientBy : Option ReferrerPolicy → Text → Text → ℕ → Option Thing → Option Thing → Type 0
IsClientBy None url top code before held = (code ≡ NO_SUCH_NUMBER) × (held ≡ before)
IsClientBy (Some policy) url top code before held = IsClientOf (settings_of url top policy) code before held

abbrev pub IsClient : Text → Text → ℕ → ℕ → Option Thing → Option Thing → Type 0
IsClient url top number = IsClientBy (policy_numbered number) url top

-- a client with the policies of one more value
abbrev pub add_policies : Text → Bool → Option Thing → Done
add_policies value enforced held =
    done_by (held_client held) (λ settings. done OK (Some (thing.Client (with_policies value enforced settings)))) held

-- a client with one more cookie, or as it was
abbrev pub cookie_done : Setup → Result Setup Refusal → Done
cookie_done settings (Ok next) = done OK (Some (thing.Client next))
cookie_done settings (Err refusal) = done (code_of refusal) (Some (thing.Client settings))

abbrev pub add_cookie : Text → Text → Option Thing → Done
add_cookie url value held =
    done_by (held_client held) (λ settings. cookie_done settings (cookie_added url value settings)) held
