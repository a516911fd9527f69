-- What the calls that begin a fetch, and ask what it does, tell.
use Rattle.std.specs.Prelude.{◌≡◌, ℕ, ◌^◌, Bool, true, false, nat_lt, Option, Some, None, Result, Ok, Err}
use Rattle.fetch_acts.specs.declared.act.Act.TheVariants as act
use Rattle.c_handle.specs.declared.thing.Thing.TheVariants as thing
use Rattle.c_fetch_calls.specs.Terms.{Act, Amount, Asked, BadHeader, IsKept, IsNotHeld, IsTextTold, NO, NO_REQUEST}
use Rattle.c_fetch_calls.specs.Terms.{NO_SUCH_NUMBER, OK, Outcome, Part, Refusal, Session, Setup, Standing, TOO_LATE}
use Rattle.c_fetch_calls.specs.Terms.{Text, TextBy, Thing, TypeFault, WRONG_HANDLE, act_of, amount_of, begun_as, both}
use Rattle.c_fetch_calls.specs.Terms.{fault_number, held_client, held_fetch, held_request, outcome_of, request_of}
use Rattle.c_fetch_calls.specs.Terms.{standing_of, text_of}

-- ---- the beginning

-- where the fetch of a thing stands
abbrev pub stands_in : Option Thing → Option Standing
stands_in (Some (thing.Fetch session)) = standing_of session
stands_in _ = None

-- the index of the header that is none, or 0
abbrev pub header_of : TypeFault → ℕ
header_of (BadHeader index) = index
header_of _ = 0

-- the fetch begins; or why there is no request is told, and the handle holds what it held
abbrev pub BegunAs : Result Standing TypeFault → ℕ → Option Thing → Option Thing → ℕ → ℕ → ℕ → ℕ → Type 0
BegunAs (Ok standing) code before held fault_before fault header_before header =
    (code ≡ OK) × (stands_in held ≡ Some standing) × (fault ≡ fault_before) × (header ≡ header_before)
BegunAs (Err why) code before held fault_before fault header_before header =
    (code ≡ NO_REQUEST) × (held ≡ before) × (fault ≡ fault_number why) × (header ≡ header_of why)

-- no fetch begins, by this code
abbrev pub IsRefused : ℕ → ℕ → Option Thing → Option Thing → ℕ → ℕ → ℕ → ℕ → Type 0
IsRefused expected code before held fault_before fault header_before header =
    (code ≡ expected) × (held ≡ before) × (fault ≡ fault_before) × (header ≡ header_before)

abbrev pub BeginsWhere : Bool → Result Standing TypeFault → ℕ → Option Thing → Option Thing → ℕ → ℕ → ℕ → ℕ → Type 0
BeginsWhere true begun = BegunAs begun
BeginsWhere false begun = IsRefused TOO_LATE

abbrev pub BeginsOf : Setup → Asked → ℕ → ℕ → ℕ → Option Thing → Option Thing → ℕ → ℕ → ℕ → ℕ → Type 0
BeginsOf settings asked now limit = BeginsWhere (nat_lt now (2 ^ 48)) (begun_as settings asked now limit)

abbrev pub BeginsBy : Option (Setup × Asked) → ℕ → ℕ → ℕ → Option Thing → Option Thing → ℕ → ℕ → ℕ → ℕ → Type 0
BeginsBy None now limit = IsRefused WRONG_HANDLE
BeginsBy (Some it) now limit = BeginsOf it.0 it.1 now limit

abbrev pub Begins :
    Option Thing → Option Thing → ℕ → ℕ → ℕ → Option Thing → Option Thing → ℕ → ℕ → ℕ → ℕ → Type 0
Begins client request = BeginsBy (both (held_client client) (held_request request))

-- ---- acts

-- the number of what a fetch does next
abbrev pub number_of_act : Act → ℕ
number_of_act (act.Ask op) = 1
number_of_act (act.Send hop) = 2
number_of_act act.ReadHead = 3
number_of_act act.ReadBody = 4
number_of_act (act.Tell violation) = 5

-- 0 for a fetch that is over, and 6 for one that is gone
abbrev pub act_or_end : Option Act → Option Outcome → ℕ
act_or_end (Some first) outcome = number_of_act first
act_or_end None (Some outcome) = 0
act_or_end None None = 6

abbrev pub act_number : Session → ℕ
act_number session = act_or_end (act_of (standing_of session)) (outcome_of (standing_of session))

-- nothing of the kind is held, and no number is told
abbrev pub IsNotTold : ℕ → ℕ → ℕ → Type 0
IsNotTold before number code = (code ≡ WRONG_HANDLE) × (number ≡ before)

abbrev pub GivesActOf : Option Session → ℕ → ℕ → ℕ → Type 0
GivesActOf None before number code = IsNotTold before number code
GivesActOf (Some session) before number code = (code ≡ OK) × (number ≡ act_number session)

abbrev pub GivesAct : Option Thing → ℕ → ℕ → ℕ → Type 0
GivesAct held = GivesActOf (held_fetch held)

-- ---- parts

-- a text of a fetch, if there is one
abbrev pub GivesTextOf : Option Session → Option Part → ℕ → Text → Text → ℕ → ℕ → ℕ → Type 0
GivesTextOf None part at = IsNotHeld
GivesTextOf (Some session) None at =
    λ room after len_before len code. (code ≡ NO_SUCH_NUMBER) × IsKept room after len_before len
GivesTextOf (Some session) (Some part) at = IsTextTold (Ok (text_of (standing_of session) part at))

abbrev pub GivesText : Option Part → ℕ → Option Thing → Text → Text → ℕ → ℕ → ℕ → Type 0
GivesText part at held = GivesTextOf (held_fetch held) part at

-- a number of a fetch, if there is one
abbrev pub IsNumber : Option ℕ → ℕ → ℕ → ℕ → Type 0
IsNumber None before number code = (code ≡ NO) × (number ≡ before)
IsNumber (Some amount) before number code = (code ≡ OK) × (number ≡ amount)

abbrev pub GivesNumberOf : Option Session → Option Amount → ℕ → ℕ → ℕ → Type 0
GivesNumberOf None which = IsNotTold
GivesNumberOf (Some session) None = λ before number code. (code ≡ NO_SUCH_NUMBER) × (number ≡ before)
GivesNumberOf (Some session) (Some which) = IsNumber (amount_of (standing_of session) which)

abbrev pub GivesNumber : Option Amount → Option Thing → ℕ → ℕ → ℕ → Type 0
GivesNumber which held = GivesNumberOf (held_fetch held) which

-- the request that is sent
abbrev pub request_in : Session → Result (Option Text) Refusal
request_in session = Ok (request_of (standing_of session))

abbrev pub GivesRequest : Option Thing → Text → Text → ℕ → ℕ → ℕ → Type 0
GivesRequest held = TextBy (held_fetch held) request_in
