-- Processes that rest on nothing else of an answer than what a document may learn of it.
use Rattle.std.specs.Prelude.{◌≡◌, IsTrue, List, Option}
use Rattle.value_requests.specs.declared.hop.Hop.{Hop}
use Rattle.value_requests.specs.declared.request.Request.{Request}
use Rattle.fetch_acts.specs.declared.act.Act.{Act}
use Rattle.fetch_acts.specs.declared.act.Input.{Input}
use Rattle.fetch_acts.specs.Process.{Process, act, ended, fits}
use Rattle.fetch_acts.specs.Readings.{Reading}
use Rattle.fetch_laws.specs.Seen.{seen, sent_by}

-- after an act it goes on from what is seen of each input that fits as from the input; the hop is that which was sent
-- last
abbrev pub GoesBlind : {Rest : Type 0} → Option Hop → Request → Act → (Input → Rest) → Type 0
GoesBlind sent request first after =
    (input : Input) → IsTrue (fits first input) → after (seen first request sent input) ≡ after input

-- so it does after each of its acts
abbrev pub Blind : Option Hop → Process → Type 0
Blind sent (ended outcome) = Unit {0}
Blind sent (act request first after) =
    GoesBlind sent request first after × ((input : Input) → Blind (sent_by first sent) (after input))

-- what is read of an item is the same of what is seen of it
abbrev pub IsBlind : {R : Type 0} → Reading R → Type 0
IsBlind {R = R} reading =
    (first : Act) (request : Request) (sent : Option Hop) (input : Input) (rest : R)
    → reading.took first (seen first request sent input) rest ≡ reading.took first input rest

-- an act shows the same of an input and of what is seen of it
abbrev pub ShowsNoHead : {Event : Type 0} → (Act → Input → List Event) → Type 0
ShowsNoHead events_of =
    (first : Act) (request : Request) (sent : Option Hop) (input : Input)
    → events_of first (seen first request sent input) ≡ events_of first input
