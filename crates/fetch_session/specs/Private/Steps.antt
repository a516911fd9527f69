-- Where a step of the machine leads.
use Rattle.std.specs.Prelude.{◌≡◌, Some, None}
use Rattle.fetch_acts.specs.Process.{Process, act, ended}
use Rattle.fetch_acts.specs.declared.act.Input.{Input}
use Rattle.fetch_machine.specs.Machine.{rest}
use Rattle.fetch_machine.specs.declared.place.Fetching.{Fetching}
use Rattle.fetch_machine.specs.declared.place.Step.{Step}
use Rattle.fetch_machine.specs.declared.place.Step.TheVariants.{Going, Over}
use Rattle.fetch_session.specs.Readers.{bodies_after}
use Rattle.fetch_session.specs.Sessions.{context_at, standing_of}
use Rattle.fetch_session.specs.Standings.{begun}
use Rattle.fetch_session.specs.declared.document.Document.{Document}
use Rattle.fetch_session.specs.declared.reading.Bodies.{Bodies}
use Rattle.fetch_session.specs.declared.session.Session.{Session}
use Rattle.fetch_session.specs.declared.session.Went.{Went}
use Rattle.fetch_session.specs.declared.session.Went.TheVariants as went

-- the step's fetch keeps the act that it asks for
abbrev pub HasLast : Step → Type 0
HasLast (Going fetching first) = fetching.last.value ≡ first
HasLast (Over outcome) = Unit {0}

-- what is left of a document's fetch behind a step
abbrev pub process_of : Document → Step → Process
process_of document (Going fetching first) =
    act fetching.level.request.value first (rest (context_at document fetching.now) fetching)
process_of document (Over outcome) = ended outcome

-- what is left of it once an input came
abbrev pub rest_of : Document → Fetching → Input → Process
rest_of document fetching input = rest (context_at document fetching.now) fetching input

-- the session's fetch went on from an input, or memory was refused and it is gone
abbrev pub WentOn : Fetching → Bodies → Input → Session → Went → Session → Type 0
WentOn fetching bodies input old went.On new =
    standing_of new ≡ Some (begun (rest_of old.document fetching input) (bodies_after bodies input))
WentOn fetching bodies input old went.NotAwaited new = ⊥
WentOn fetching bodies input old went.OutOfMemory new = standing_of new ≡ None
