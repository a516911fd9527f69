-- What it comes to where a fetch asks the book.
use Rattle.std.specs.Prelude.{◌≡◌, ◌⊎◌, Bool, false, Option, Some, None}
use Rattle.fetch_acts.specs.declared.act.Act.{Act}
use Rattle.fetch_acts.specs.declared.act.Act.TheVariants.{Ask}
use Rattle.fetch_acts.specs.declared.act.Input.{Input}
use Rattle.fetch_acts.specs.declared.act.Input.TheVariants.{Replied, Told}
use Rattle.book_calls.specs.Book.{after, reply}
use Rattle.book_calls.specs.declared.book.Book.{Book}
use Rattle.book_calls.specs.declared.op.Reply.{Reply}
use Rattle.book_calls.specs.Ops.{is_in_range}
use Rattle.fetch_session.specs.Sessions.{Goes, act_of}
use Rattle.fetch_session.specs.Standings.{Standing, first_act}
use Rattle.fetch_session.specs.declared.session.Went.{Went}
use Rattle.fetch_session.specs.declared.session.Went.TheVariants as went

-- the act asks the book, in range
abbrev pub asks_in_range : Option Act → Bool
asks_in_range (Some (Ask op)) = is_in_range op
asks_in_range _ = false

abbrev pub asks : Option Standing → Bool
asks standing = asks_in_range (act_of standing)

-- what the book replies to an act that asks it
abbrev pub reply_to : Book → Option Act → Input
reply_to book (Some (Ask op)) = Replied (reply book op)
reply_to book _ = Told

-- the book did what the act asks it, and its reply is told
abbrev pub HasReplied : Option Act → Book → Book → Option Reply → Type 0
HasReplied (Some (Ask op)) old new told = (new ≡ after old op) × (told ≡ Some (reply old op))
HasReplied _ old new told = ⊥

-- the book is as it was, and nothing is told
abbrev pub IsUnasked : Book → Book → Option Reply → Type 0
IsUnasked old new told = (new ≡ old) × (told ≡ None)

-- The book after the call, and the reply that is told: it did what the act asks it, unless that was not awaited; where
-- memory was refused it did it or not, and the reply tells which.
abbrev pub BookAfter : Option Act → Went → Book → Book → Option Reply → Type 0
BookAfter first went.On old new told = HasReplied first old new told
BookAfter first went.NotAwaited old new told = IsUnasked old new told
BookAfter first went.OutOfMemory old new told = IsUnasked old new told ⊎ HasReplied first old new told

-- how a call went that asks this book, where the fetch asks one
abbrev pub Asks : Book → Option Standing → Went → Option Standing → Type 0
Asks book = Goes asks (λ standing. reply_to book (first_act standing.process))
