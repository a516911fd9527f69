-- What the calls tell that look at a header list alone.
use Rattle.std.specs.Prelude.{◌≡◌, ℕ, Bool, List, slice_get, Option, Some, None, option_map, Ok}
use Rattle.value_text.specs.Texts.{Text}
use Rattle.policy_csp.specs.Violations.{upgrades}
use Rattle.value_headers.specs.declared.headers.Header.{Header}
use Rattle.c_checks.specs.Policies.{policies_in}
use Rattle.c_handle.specs.Codes.{yes_or_no}
use Rattle.c_handle.specs.Things.{code_by, held_headers, held_policies, TextBy}
use Rattle.c_handle.specs.declared.codes.TheConstants.{OK, WRONG_HANDLE}
use Rattle.c_handle.specs.declared.thing.Thing.{Thing}
use Rattle.c_handle.specs.declared.thing.Thing.TheVariants as thing
use Rattle.c_rules.specs.Names.{exposed_name_at, unsafe_name_at}

-- ---- the headers by their index

abbrev pub IsNameAt : ℕ → Option Thing → Text → Text → ℕ → ℕ → ℕ → Type 0
IsNameAt at held = TextBy (held_headers held) (λ list. Ok (option_map (λ header. header.name) (slice_get list at)))

abbrev pub IsValueAt : ℕ → Option Thing → Text → Text → ℕ → ℕ → ℕ → Type 0
IsValueAt at held = TextBy (held_headers held) (λ list. Ok (option_map (λ header. header.value) (slice_get list at)))

-- ---- names

-- "CORS-unsafe request-header names", that at an index
abbrev pub IsUnsafeName : ℕ → Option Thing → Text → Text → ℕ → ℕ → ℕ → Type 0
IsUnsafeName at held = TextBy (held_headers held) (λ list. unsafe_name_at list at)

-- "CORS-exposed header-name list", the name at an index
abbrev pub IsExposedName : Bool → ℕ → Option Thing → Text → Text → ℕ → ℕ → ℕ → Type 0
IsExposedName include at held = TextBy (held_headers held) (λ list. exposed_name_at include list at)

-- ---- policies

-- the handle holds the policies of the list, or what it held
abbrev pub HasPoliciesOf : Option (List Header) → ℕ → Option Thing → Option Thing → Type 0
HasPoliciesOf None code before held = (code ≡ WRONG_HANDLE) × (held ≡ before)
HasPoliciesOf (Some list) code before held = (code ≡ OK) × (held ≡ Some (thing.Policies (policies_in list)))

abbrev pub HasPolicies : Option Thing → ℕ → Option Thing → Option Thing → Type 0
HasPolicies headers = HasPoliciesOf (held_headers headers)

-- an enforced policy has `upgrade-insecure-requests`
abbrev pub upgrades_code : Option Thing → ℕ
upgrades_code held = code_by (held_policies held) (λ policies. yes_or_no (upgrades policies))
