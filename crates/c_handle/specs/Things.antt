-- What a handle holds, by its kind, and what a call tells by it.
use Rattle.std.specs.Prelude.{◌≡◌, ℕ, List, Option, Some, None, Result}
use Rattle.book_calls.specs.declared.book.Book as declared
use Rattle.fetch_session.specs.declared.session.Session as declared_fetch
use Rattle.c_fetch.specs.declared.asked.Asked as declared_request
use Rattle.c_handle.specs.Words.{Header, Policy, Refusal, Setup, Text, Violation}
use Rattle.c_handle.specs.Codes.{IsKept, IsTextTold}
use Rattle.c_handle.specs.declared.codes.TheConstants.{WRONG_HANDLE}
use Rattle.c_handle.specs.declared.thing.Thing.{Thing}
use Rattle.c_handle.specs.declared.thing.Thing.TheVariants.{Book, Client, Fetch, Headers, Policies, Request}
use Rattle.c_handle.specs.declared.thing.Thing.TheVariants.{Violations}

-- ---- what is held, if it is of the kind

abbrev pub held_headers : Option Thing → Option (List Header)
held_headers (Some (Headers it)) = Some it
held_headers _ = None

abbrev pub held_book : Option Thing → Option declared.Book
held_book (Some (Book it)) = Some it
held_book _ = None

abbrev pub held_client : Option Thing → Option Setup
held_client (Some (Client it)) = Some it
held_client _ = None

abbrev pub held_request : Option Thing → Option declared_request.Asked
held_request (Some (Request it)) = Some it
held_request _ = None

abbrev pub held_fetch : Option Thing → Option declared_fetch.Session
held_fetch (Some (Fetch it)) = Some it
held_fetch _ = None

abbrev pub held_policies : Option Thing → Option (List Policy)
held_policies (Some (Policies it)) = Some it
held_policies _ = None

abbrev pub held_violations : Option Thing → Option (List Violation)
held_violations (Some (Violations it)) = Some it
held_violations _ = None

-- both, if both are there
abbrev pub both : {A B : Type 0} → Option A → Option B → Option (A × B)
both None second = None
both (Some first) None = None
both (Some first) (Some second) = Some (first, second)

-- ---- what a call tells

-- the code that what is held gives, or that it is nothing of the kind
abbrev pub code_by : {A : Type 0} → Option A → (A → ℕ) → ℕ
code_by None code = WRONG_HANDLE
code_by (Some it) code = code it

-- nothing of the kind is held, and nothing is written
abbrev pub IsNotHeld : Text → Text → ℕ → ℕ → ℕ → Type 0
IsNotHeld room after len_before len code = (code ≡ WRONG_HANDLE) × IsKept room after len_before len

-- the text that what is held gives is written, if it gives one
abbrev pub TextBy :
    {A : Type 0} → Option A → (A → Result (Option Text) Refusal) → Text → Text → ℕ → ℕ → ℕ → Type 0
TextBy None text = IsNotHeld
TextBy (Some it) text = IsTextTold (text it)
