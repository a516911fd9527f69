-- What is lent of a handle: it ends with the last value behind the reference, or as it was where nothing is lent.
use Rattle.std.specs.Prelude.{List, Option, Some}
use Rattle.c_fetch.specs.contracts.asked.Asked as asked
use Rattle.c_fetch.specs.contracts.settings.Settings as settings
use Rattle.c_fetch.specs.declared.asked.Asked as declared_request
use Rattle.book_calls.specs.contracts.book.Book as book
use Rattle.book_calls.specs.declared.book.Book as declared
use Rattle.policy_csp.specs.contracts.compiled.Compiled as compiled
use Rattle.fetch_session.specs.contracts.session.Session as session
use Rattle.fetch_session.specs.declared.session.Session as declared_fetch
use Rattle.value_headers.specs.contracts.headers.HeaderList as headers
use Rattle.c_handle.specs.Words.{Fml, Header, LendsIf, MutBor, Policy, Setup, Violation}
use Rattle.c_handle.specs.contracts.found.Found as found
use Rattle.c_handle.specs.contracts.handle.Handle as handle
use Rattle.c_handle.specs.contracts.thing.Thing as thing
use Rattle.c_handle.specs.declared.handle.Handle.{Handle}
use Rattle.c_handle.specs.declared.thing.Thing.{Thing}
use Rattle.c_handle.specs.declared.thing.Thing.TheVariants.{Book, Client, Fetch, Headers, Policies, Request}
use Rattle.c_handle.specs.declared.thing.Thing.TheVariants.{Violations}

-- the handle with this thing
abbrev pub with_thing : Handle → Thing → Handle
with_thing handle thing = record handle { held = Some thing }

abbrev pub LendsThing : MutBor Handle → Option (MutBor Thing) → Fml
LendsThing from lent = LendsIf handle.the_row thing.the_row from lent (with_thing from.now) from.now

abbrev pub LendsHeaders : MutBor Handle → Option (MutBor (List Header)) → Fml
LendsHeaders from lent = LendsIf handle.the_row headers.the_row from lent
    (λ it. with_thing from.now (Headers it)) from.now

abbrev pub LendsBook : MutBor Handle → Option (MutBor declared.Book) → Fml
LendsBook from lent = LendsIf handle.the_row book.the_row from lent (λ it. with_thing from.now (Book it)) from.now

abbrev pub LendsClient : MutBor Handle → Option (MutBor Setup) → Fml
LendsClient from lent = LendsIf handle.the_row settings.the_row from lent
    (λ it. with_thing from.now (Client it)) from.now

abbrev pub LendsRequest : MutBor Handle → Option (MutBor declared_request.Asked) → Fml
LendsRequest from lent = LendsIf handle.the_row asked.the_row from lent
    (λ it. with_thing from.now (Request it)) from.now

abbrev pub LendsFetch : MutBor Handle → Option (MutBor declared_fetch.Session) → Fml
LendsFetch from lent = LendsIf handle.the_row session.the_row from lent (λ it. with_thing from.now (Fetch it)) from.now

abbrev pub LendsPolicies : MutBor Handle → Option (MutBor (List Policy)) → Fml
LendsPolicies from lent = LendsIf handle.the_row compiled.the_row from lent
    (λ it. with_thing from.now (Policies it)) from.now

abbrev pub LendsViolations : MutBor Handle → Option (MutBor (List Violation)) → Fml
LendsViolations from lent = LendsIf handle.the_row found.the_row from lent
    (λ it. with_thing from.now (Violations it)) from.now
