-- What the calls tell that bring a fetch what came of its acts, and where it stands after them.
use Rattle.std.specs.Prelude.{◌≡◌, ℕ, ◌==◌, Option, Some, None, if◌then◌else◌}
use Rattle.fetch_acts.specs.declared.act.Input.TheVariants as input
use Rattle.fetch_session.specs.declared.session.Went.TheVariants as went
use Rattle.c_handle.specs.declared.thing.Thing.TheVariants as thing
use Rattle.c_fetch_calls.specs.Terms.{Asks, Book, BookAfter, Done, Ends, Fails, Fed, NOT_AWAITED, NO_SUCH_NUMBER, No}
use Rattle.c_fetch_calls.specs.Terms.{OK, OUT_OF_MEMORY, Reply, Session, Standing, Takes, Text, Thing, WRONG_HANDLE}
use Rattle.c_fetch_calls.specs.Terms.{Went, Yes, act_of, both, held_book, held_fetch, standing_of}
use Rattle.c_fetch_calls.specs.declared.inputs.Said.{Said}
use Rattle.c_fetch_calls.specs.declared.inputs.Said.TheVariants as said

-- ---- how a call went

abbrev pub code_of_went : Went → ℕ
code_of_went went.On = OK
code_of_went went.NotAwaited = NOT_AWAITED
code_of_went went.OutOfMemory = OUT_OF_MEMORY

-- what a code tells of it
abbrev pub went_told : ℕ → Went
went_told code = if code == 0 then went.On else if code == 3 then went.OutOfMemory else went.NotAwaited

-- The handle holds a fetch, and the code tells how the call went that led to where it stands.
abbrev pub Tells : (Went → Option Standing → Type 0) → ℕ → Option Thing → Type 0
Tells Goes code (Some (thing.Fetch session)) =
    (code ≡ code_of_went (went_told code)) × Goes (went_told code) (standing_of session)
Tells Goes code _ = ⊥

-- ---- inputs by their numbers

abbrev pub said_numbered : ℕ → Option Said
said_numbered number =
    if number == 0 then Some said.Sent
    else if number == 1 then Some said.Told
    else if number == 2 then Some said.Ended
    else if number == 3 then Some said.Failed
    else if number == 4 then Some (said.Replied Yes)
    else if number == 5 then Some (said.Replied No)
    else if number == 6 then Some (said.Replied Done)
    else None

-- how a call went that says so
abbrev pub Says : Said → Option Standing → Went → Option Standing → Type 0
Says said.Sent = Takes input.Sent
Says said.Told = Takes input.Told
Says said.Ended = Ends
Says said.Failed = Fails
Says (said.Replied reply) = Takes (input.Replied reply)

abbrev pub IsSaidTo : Option Session → Option Said → Option Thing → ℕ → Option Thing → Type 0
IsSaidTo None what before code held = (code ≡ WRONG_HANDLE) × (held ≡ before)
IsSaidTo (Some session) None before code held = (code ≡ NO_SUCH_NUMBER) × (held ≡ before)
IsSaidTo (Some session) (Some what) before code held = Tells (Says what (standing_of session)) code held

abbrev pub IsSaid : Option Said → Option Thing → ℕ → Option Thing → Type 0
IsSaid what before = IsSaidTo (held_fetch before) what before

-- ---- bytes

abbrev pub IsFedTo : Option Session → Text → Option Thing → ℕ → ℕ → Option Thing → ℕ → Type 0
IsFedTo None bytes before used_before code held used =
    (code ≡ WRONG_HANDLE) × (held ≡ before) × (used ≡ used_before)
IsFedTo (Some session) bytes before used_before code held used =
    Tells (λ went next. Fed bytes (standing_of session) went used next) code held

abbrev pub IsFed : Text → Option Thing → ℕ → ℕ → Option Thing → ℕ → Type 0
IsFed bytes before = IsFedTo (held_fetch before) bytes before

-- ---- the book

-- the reply is told, if there is one
abbrev pub reply_number : Reply → ℕ
reply_number Yes = 4
reply_number No = 5
reply_number Done = 6

abbrev pub IsReply : Option Reply → ℕ → ℕ → Type 0
IsReply None before number = number ≡ before
IsReply (Some reply) before number = number ≡ reply_number reply

-- the book after the call, and the reply that is told
abbrev pub IsBook : Option Standing → Book → ℕ → Option Thing → ℕ → ℕ → Type 0
IsBook standing book code (Some (thing.Book after)) before number =
    (told : Option Reply) × BookAfter (act_of standing) (went_told code) book after told × IsReply told before number
IsBook standing book code _ before number = ⊥

abbrev pub IsBookAskedOf :
    Option (Session × Book) → Option Thing → Option Thing → ℕ → ℕ → Option Thing → Option Thing → ℕ → Type 0
IsBookAskedOf None other other_book before code fetch book reply =
    (code ≡ WRONG_HANDLE) × (fetch ≡ other) × (book ≡ other_book) × (reply ≡ before)
IsBookAskedOf (Some it) other other_book before code fetch book reply =
    let standing = standing_of it.0 in
    Tells (Asks it.1 standing) code fetch × IsBook standing it.1 code book before reply

abbrev pub IsBookAsked : Option Thing → Option Thing → ℕ → ℕ → Option Thing → Option Thing → ℕ → Type 0
IsBookAsked fetch book = IsBookAskedOf (both (held_fetch fetch) (held_book book)) fetch book
