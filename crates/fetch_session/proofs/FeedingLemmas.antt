-- What came to a reader of bodies is what came of the act that it reads for.
use Rattle.std.proofs.lemmas.Bool.{false≢true}
use Rattle.std.specs.Prelude.{ℕ, IsTrue, List, Option, Some}
use Rattle.fetch_machine.specs.declared.place.Fetching.{Fetching}
use Rattle.fetch_acts.specs.declared.act.Act.{Act}
use Rattle.fetch_acts.specs.declared.act.Act.TheVariants as acts
use Rattle.link_http1.specs.BodyReading.{BodyReading}
use Rattle.fetch_session.specs.Private.Pieces.{BodyCame, Came}
use Rattle.fetch_session.specs.Readers.{suits}
use Rattle.fetch_session.specs.Sessions.{stands_at}
use Rattle.fetch_session.specs.Standings.{Standing}
use Rattle.fetch_session.specs.declared.document.Document.{Document}
use Rattle.fetch_session.specs.declared.reading.Bodies.{Bodies}
use Rattle.fetch_session.specs.declared.reading.Reader.TheVariants.{Body}
use Rattle.fetch_session.specs.declared.session.Went.{Went}
use Rattle.fetch_session.specs.declared.session.Went.TheVariants as went

pub body_suits : (document : Document) (fetching : Fetching) (first : Act) (reading : BodyReading) (bodies : Bodies)
    (piece : List ℕ) (how : Went) (used : ℕ) (next : Option Standing) → IsTrue (suits first (Body reading))
    → BodyCame (stands_at document fetching acts.ReadBody reading.bytes bodies) piece how used next
    → Came (Some first) (stands_at document fetching first reading.bytes bodies) piece how used next
body_suits document fetching acts.ReadBody reading bodies piece went.On used next suited came = came
body_suits document fetching acts.ReadBody reading bodies piece went.NotAwaited used next suited came = came
body_suits document fetching acts.ReadBody reading bodies piece went.OutOfMemory used next suited came = came
body_suits document fetching (acts.Ask op) reading bodies piece how used next suited came = absurd (false≢true suited)
body_suits document fetching (acts.Send hop) reading bodies piece how used next suited came = absurd (false≢true suited)
body_suits document fetching acts.ReadHead reading bodies piece how used next suited came = absurd (false≢true suited)
body_suits document fetching (acts.Tell violation) reading bodies piece how used next suited came = absurd (false≢true suited)
