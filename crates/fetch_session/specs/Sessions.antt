-- A session as where its fetch stands, and how a call went.
use Rattle.std.specs.Prelude.{◌≡◌, ℕ, Bool, true, false, [], Option, Some, None, option_and_then, option_map}
use Rattle.value_text.specs.Texts.{Text}
use Rattle.fetch_acts.specs.Process.{act, ended}
use Rattle.fetch_acts.specs.declared.act.Act.{Act}
use Rattle.fetch_acts.specs.declared.act.Input.{Input}
use Rattle.fetch_machine.specs.Machine.{rest}
use Rattle.fetch_definitions.specs.Then.{Context, context_of}
use Rattle.fetch_machine.specs.declared.place.Fetching.{Fetching}
use Rattle.value_requests.specs.declared.response.Outcome.{Outcome}
use Rattle.fetch_session.specs.Standings.{Standing, begun, first_act, fits_act, gone_on, outcome_at}
use Rattle.fetch_session.specs.declared.document.Document.{Document}
use Rattle.fetch_session.specs.declared.reading.Bodies.{Bodies}
use Rattle.fetch_session.specs.declared.reading.Reader.{Reader}
use Rattle.fetch_session.specs.declared.reading.Reader.TheVariants as reader
use Rattle.fetch_session.specs.declared.session.Session.{Session}
use Rattle.fetch_session.specs.declared.session.Stand.{Stand}
use Rattle.fetch_session.specs.declared.session.Stand.TheVariants as stand
use Rattle.fetch_session.specs.declared.session.Went.{Went}
use Rattle.fetch_session.specs.declared.session.Went.TheVariants as went

-- what a document lends its fetch at a time
abbrev pub context_at : Document → ℕ → Context
context_at document now = context_of document.client document.policies document.cookies now

-- all bytes that a reader was fed
abbrev pub bytes_of : Reader → Text
bytes_of reader.Idle = []
bytes_of (reader.Head bytes) = bytes
bytes_of (reader.Body reading) = reading.bytes

-- where a fetch of a document stands that waits for what comes of an act
abbrev pub stands_at : Document → Fetching → Act → Text → Bodies → Standing
stands_at document fetching first read bodies = record {
  process = act fetching.level.request.value first (rest (context_at document fetching.now) fetching);
  read = read;
  bodies = bodies;
}

-- where a fetch of a document stands, unless it is gone
abbrev pub seen : Document → Stand → Option Standing
seen document (stand.Waits waiting) =
    Some (stands_at document waiting.fetching waiting.act (bytes_of waiting.reader) waiting.bodies)
seen document (stand.Ends outcome bodies) = Some (begun (ended outcome) bodies)
seen document stand.Gone = None

-- where a session's fetch stands
abbrev pub standing_of : Session → Option Standing
standing_of session = seen session.document session.stand

-- the act that is to be done next
abbrev pub act_of : Option Standing → Option Act
act_of standing = option_and_then (λ s. first_act s.process) standing

-- the outcome of a fetch that is over
abbrev pub outcome_of : Option Standing → Option Outcome
outcome_of standing = option_and_then (λ s. outcome_at s.process) standing

-- the input may follow the act
abbrev pub awaits : Option Standing → Input → Bool
awaits standing input = fits_act (act_of standing) input

-- How a call went that brings an input where it may: the fetch goes on from it; or nothing is changed where it may not;
-- or memory was refused, and the fetch is gone.
abbrev pub Goes : (Option Standing → Bool) → (Standing → Input) → Option Standing → Went → Option Standing → Type 0
Goes may brings old went.On next = (may old ≡ true) × (next ≡ option_map (λ s. gone_on s (brings s)) old)
Goes may brings old went.NotAwaited next = (may old ≡ false) × (next ≡ old)
Goes may brings old went.OutOfMemory next = (may old ≡ true) × (next ≡ None)

-- how a call went that brings this input
abbrev pub Takes : Input → Option Standing → Went → Option Standing → Type 0
Takes input = Goes (λ standing. awaits standing input) (λ standing. input)
